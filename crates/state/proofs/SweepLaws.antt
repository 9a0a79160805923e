-- A sweep keeps what every order keeps: it drops the voids that do not stay, and no others.
use Rattle.std.specs.Prelude.{◌≡◌, refl, List, ◌++◌, ℕ, ◌≤◌}
use Rattle.std.proofs.Common.{inl, inr, arith, length-append}
use Rattle.numbers.specs.Case.{pick, case_le}
use Rattle.rule.specs.Moments.{open_end, last_moment}
use Rattle.rule.specs.Kept.{least, stays}
use Rattle.rule.specs.Key.{channel_of}
use Rattle.shape.specs.Tree.{Tree, size, low, In}
use Rattle.shape.specs.TreeLaws.{all_map, all_of, low_ends}
use Rattle.shape.specs.PlaceLaws.{weight_in, size_weight}
use Rattle.shape.specs.Clear.{rest, freed}
use Rattle.state.specs.State.{State, with_tree}
use Rattle.state.specs.Act.{to_drop, cleared}
use Rattle.state.specs.Sound.{most_key}
use Rattle.state.specs.Places.{Placed}
use Rattle.state.specs.Cover.{cov}
use Rattle.state.proofs.TickLaws.{cov_no}
use Rattle.state.specs.Bordered.{Bordered, Kept}
use Rattle.state.proofs.LongestLaws.{bordered}
use Rattle.state.proofs.OpenEndLaws.{open_end_lem}
use Rattle.state.specs.ClearLaws.{Cleared, among_append, none_lost, left_some, left_ordered, left_late, left_less, left_same}

-- time goes on
pub later : (F₀ F T G C : ℕ) (H : ℕ → ℕ → ℕ) (t : Tree) → F ≤ T → Kept F₀ F G C H t → Kept F₀ T G C H t
later F₀ F T G C H t h K = record {
  ordered = K.ordered;
  balanced = K.balanced;
  once = K.once;
  full = λ c s a b d. K.full c s a b (omega arith);
  last = K.last;
  edges = K.edges;
}

-- z is s without the voids that do not stay at the moment
pub record Dropped (moment F₀ G C : ℕ) (H : ℕ → ℕ → ℕ) (s z : State) : Type 0 where
  pub kept : Kept F₀ (least moment) G C H z.tree
  pub none : to_drop moment z.tree ≡ 0
  pub placed : Placed s → Placed z
  pub fewer : size z.tree ≤ size s.tree
  pub settings : z.settings ≡ s.settings

-- the places of a state, some of the tree's having come free
pub placed_left : (s : State) (b : ℕ) (u : Tree) → Cleared b s.tree (rest u) (freed b s.tree) → Placed s → Placed (with_tree s u (freed b s.tree ++ s.spares))
placed_left s b u C P = record {
  all = λ z. omega (arith, P.all z, C.places z, among_append z (freed b s.tree) s.spares);
  many = omega (arith, P.many, C.many, length-append (freed b s.tree) s.spares);
}

module _ (moment F₀ G C : ℕ) (H : ℕ → ℕ → ℕ) (f : least moment ≤ open_end) (h : F₀ ≤ last_moment) where
  abbrev b : ℕ
  b = least moment

  -- what is past may go
  forget : (t u : Tree) (ps : List ℕ) → Kept F₀ b G C H t → Cleared b t (rest u) ps → Kept F₀ b G C H u
  forget t u ps K L = record {
    ordered = left_ordered b t u ps L 0 most_key K.ordered;
    balanced = L.even.0;
    once = λ c s a. omega (arith, K.once c s a, left_less b t u ps L (cov c s));
    full = λ c s a i j k. omega (arith, K.full c s a i j k, left_same b t u ps L (cov c s) (λ k e l. cov_no c s k e (omega (arith, l, j))));
    last = K.last;
    edges = L.all (λ k e. Bordered F₀ G C H k e) (all_map (λ k e z n. z) t K.edges);
  }

  pub clear_dropped : (s : State) → Kept F₀ b G C H s.tree → Dropped moment F₀ G C H s (cleared s b)
  unfolding cleared
  clear_dropped s K =
      let t = s.tree in
      let x = low_ends t in
      let o = open_end_lem F₀ b G C H t K f h (channel_of x.key) (bordered F₀ b G C H t K x.key (low t) x.inside).channel in
      let u = left_some b t o.key open_end K.balanced o.inside f in
      let L = u.2 in
      rw u.1 (record {
        kept = forget t u.0 (freed b t) K L;
        none = none_lost b (λ k e. 1) u.0 (left_late b t u.0 (freed b t) L);
        placed = λ P. placed_left s b u.0 L P;
        fewer = omega (arith, left_less b t u.0 (freed b t) L (λ k e. 1), size_weight t, size_weight u.0);
        settings = refl;
      })

  -- nothing that is left is past
  pub raised : (t : Tree) → Kept F₀ (least moment) G C H t → to_drop moment t ≡ 0 → Kept F₀ (least moment) (least moment) C H t
  raised t K q = record {
    ordered = K.ordered;
    balanced = K.balanced;
    once = K.once;
    full = K.full;
    last = K.last;
    edges = all_of (λ k e. Bordered F₀ (least moment) C H k e) t (λ k e i.
        let b = bordered F₀ (least moment) G C H t K k e i in
        record { some = b.some; since = b.since; most = b.most; stay = stay k e i; channel = b.channel; stops = b.stops; starts = b.starts });
  }
    where
      stay : (k e : ℕ) → In k e t → least moment ≤ e
      stay k e i = elim (case_le (least moment) e) [
        | inl y ↦ y.0
        | inr y ↦ absurd (let z : ◌≡◌ {A = ℕ} (pick (stays moment e) 0 1) 1 = rw y.1 in omega (arith, weight_in (λ k e. pick (stays moment e) 0 1) (λ q. 0) t k e i, z, q))
      ]
