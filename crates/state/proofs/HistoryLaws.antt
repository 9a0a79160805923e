-- Demand 2's history: after any orders since an opening, the voids kept are exactly the longest idle stretches of what
-- was accepted that end after the floor.
use Rattle.std.specs.Prelude.{◌≡◌, refl, ◌↔◌, true, List, [], ◌∷◌, ℕ, ◌≤◌}
use Rattle.std.proofs.Common.{ap, subst, inl, arith}
use Rattle.rule.specs.Moments.{open_end, last_moment}
use Rattle.rule.specs.Settings.{Settings, in_bounds}
use Rattle.rule.specs.Kept.{least}
use Rattle.rule.specs.Voids.{Has}
use Rattle.rule.specs.Order.{Order, booking, sweep}
use Rattle.rule.specs.Answer.{Reply, booked, swept, refused}
use Rattle.shape.specs.Tree.{Tree}
use Rattle.shape.specs.TreeLaws.{all_of, all_in}
use Rattle.state.specs.State.{State, meaning}
use Rattle.state.specs.Act.{act}
use Rattle.state.specs.Open.{fresh}
use Rattle.state.specs.Sound.{Sound}
use Rattle.state.proofs.TickLaws.{cover_in}
use Rattle.state.specs.History.{Event, held, floor_of, Stretches}
use Rattle.state.specs.Life.{event, Life, born, next, live}
use Rattle.state.specs.Bordered.{Bordered, Kept}
use Rattle.state.proofs.LongestLaws.{kept_longest}
use Rattle.state.specs.KeptLaws.{stays_least}
use Rattle.state.specs.Range.{AllInRange}
use Rattle.state.specs.Lives.{Lives, holds, levels}
use Rattle.state.proofs.LivesLaws.{act_lives}
use Rattle.state.proofs.WholeLaws.{cover_one, lives_sound}
use Rattle.state.specs.VoidLaws.{has_voids}
use Rattle.state.specs.OpenLaws.{fresh_sound, fresh_settings, fresh_floor, fresh_wide}

-- a link lives by its history. F: the opening's floor
abbrev pub Lived : (F : ℕ) → Settings → Life → Type 0
Lived F g x = Lives F (floor_of F x.past) g (held x.past) x.state

-- what an order adds to the history is what it adds to what is held, and the floor it sets
recorded : (F : ℕ) (g h : Settings) (o : Order) (y : Reply) (es : List Event) (s : State)
    → Lives F (levels o y (floor_of F es)) g (holds h o y (held es)) s → Lived F g (record { state = s; past = event h o y es })
recorded F g h (booking r l m) (booked c i b f) es s L = L
recorded F g h (booking r l m) (swept d) es s L = L
recorded F g h (booking r l m) (refused x) es s L = L
recorded F g h (sweep moment) (booked c i b f) es s L = L
recorded F g h (sweep moment) (swept d) es s L = L
recorded F g h (sweep moment) (refused x) es s L = L

pub live_lives : (F : ℕ) (g : Settings) (x : Life) (os : List Order) → F ≤ last_moment → AllInRange os → Lived F g x → Lived F g (live x os)
live_lives F g x [] h a L = L
live_lives F g x (o ∷ os) h a L =
    let s = x.state in
    live_lives F g (next x o) os h a.1
    (recorded F g s.settings o (act s o).reply x.past (act s o).after (act_lives F (floor_of F x.past) g (held x.past) s h L o a.0))

module _ (g : Settings) (F : ℕ) (q : in_bounds g ≡ true) (h : F ≤ last_moment) where
  abbrev t : Tree
  t = (fresh g F).tree

  W : Sound (fresh g F)
  W = fresh_sound g F q h

  -- nothing is held at the opening
  fresh_kept : Kept F (least (fresh g F).floor) (least (fresh g F).floor) (fresh g F).settings.channels (λ c s. 0) t
  fresh_kept = record {
    ordered = W.ordered;
    balanced = W.balanced;
    once = λ c s a. omega (arith, cover_one 0 _ c s t W.ordered W.apart);
    full = λ c s a b d e.
        let o = W.open_ends c a in
        omega (arith, cover_in t c s o.key open_end o.inside o.channel (omega (arith, all_in _ t (fresh_wide g F q h) o.key open_end o.inside)) e);
    last = λ c a. refl;
    edges = all_of (λ k e. Bordered F (least (fresh g F).floor) (fresh g F).settings.channels (λ c s. 0) k e) t (λ k e i.
        let l = all_in _ t W.lawful k e i in
        let w = all_in _ t (fresh_wide g F q h) k e i in
        record { some = l.some; since = omega arith; most = l.most; stay = (stays_least (fresh g F).floor e).0 l.stay; channel = l.channel; stops = inl w.1; starts = inl w.0 });
  }

  pub fresh_lived : Lived F g (born (fresh g F))
  fresh_lived = record {
    kept = subst (λ (n : Settings). Kept F (least (fresh g F).floor) (least (fresh g F).floor) n.channels (λ c s. 0) t) (fresh_settings g F q h) fresh_kept;
    settings = fresh_settings g F q h;
    level = fresh_floor g F q h;
    floor = W.floor;
    placed = record { all = W.all; many = W.many };
    within = W.within;
  }

  module _ (orders : List Order) (a : AllInRange orders) where
    abbrev pub now : Life
    now = live (born (fresh g F)) orders

    pub now_lived : Lived F g now
    now_lived = live_lives F g (born (fresh g F)) orders h a fresh_lived

    -- it is sound
    pub now_sound : Sound now.state
    now_sound = lives_sound F (floor_of F now.past) g (held now.past) now.state now_lived q h

    -- its settings are those of the opening, and its floor is the history's
    pub now_settings : now.state.settings ≡ g
    now_settings = now_lived.settings

    pub now_floor : now.state.floor ≡ floor_of F now.past
    now_floor = now_lived.level

    -- "So at any time the voids kept are the maximal idle stretches of the history" that end after the floor (02, K3)
    pub voids_of_history : (c s e : ℕ) → Has (meaning now.state).voids c s e ↔ Stretches F g.channels now.past c s e
    voids_of_history c s e =
        let u = now.state.tree in
        let K = kept_longest F (least now.state.floor) g.channels (held now.past) u now_lived.kept c s e in
        let S = stays_least (floor_of F now.past) e in
        let f : least now.state.floor ≡ least (floor_of F now.past) = ap least now_floor in (
          (λ x. let y = K.0 ((has_voids c s e u).0 x) in (y.0, y.1, S.1 (omega (arith, f, y.2)))),
          (λ x. (has_voids c s e u).1 (K.1 (x.0, x.1, omega (arith, f, S.0 x.2)))),
        )
