-- A link that orders have made of a fresh one means what its history makes of it, and its orders are answered right.
-- 01, The booking rule: "So at any time the voids kept are the maximal idle stretches of the history" that end after the floor (02, K3).
use Rattle.std.specs.Prelude.{◌≡◌, refl, true, List, [], ◌∷◌, ◌++◌, ℕ, ◌≤◌}
use Rattle.std.proofs.Common.{sym, ◌∙◌, ap, subst}
use Rattle.rule.specs.Moments.{last_moment}
use Rattle.rule.specs.Settings.{Settings, in_bounds}
use Rattle.rule.specs.Order.{Order}
use Rattle.rule.specs.Answer.{seven}
use Rattle.shape.specs.Tree.{Tree}
use Rattle.node.proofs.Reps.{one_tree}
use Rattle.state.specs.State.{State, meaning}
use Rattle.state.specs.Act.{act}
use Rattle.state.specs.Sound.{Sound, most_key}
use Rattle.state.specs.Open.{fresh}
use Rattle.state.proofs.RuleLaws.{act_rule}
use Rattle.state.specs.Range.{InRange, AllInRange}
use Rattle.state.specs.History.{Event}
use Rattle.state.specs.Life.{Life, born, next, live}
use Rattle.state.proofs.HistoryLaws.{now_sound, now_settings, now_floor, voids_of_history}
use Rattle.state.proofs.Made.{Made, made_one, now_made}
use Rattle.running.specs.Run.{flat}
use Rattle.memory.specs.Holds.{Holds}
use Rattle.grounds.specs.Orders.{sevens}
use Rattle.grounds.specs.Sevens.{seven_take, seven_drop}
use Rattle.grounds.proofs.SessionLaws.{heard_next, heard_all_lem, live_after, call_went, opened_begun}
use Rattle.grounds.specs.Session.{Each, Call, Since, opened, more, heard_all, TreeOf}
use Rattle.grounds.specs.Right.{Means, Right}
use Rattle.grounds.specs.OnceLaws.{once_voids}

pub record Reached (g : Settings) (F : ℕ) (x : Life) : Type 0 where
  pub orders : List Order
  pub range : AllInRange orders
  pub is : live (born (fresh g F)) orders ≡ x

live_further : (x : Life) (os : List Order) (o : Order) → live x (os ++ (o ∷ [])) ≡ next (live x os) o
live_further x [] o = refl
live_further x (p ∷ os) o = live_further (next x p) os o

range_further : (os : List Order) (o : Order) → AllInRange os → InRange o → AllInRange (os ++ (o ∷ []))
range_further [] o a b = (b, tt)
range_further (p ∷ os) o a b = (a.0, range_further os o a.1 b)

module _ (g : Settings) (F : ℕ) (q : in_bounds g ≡ true) (h : F ≤ last_moment) where
  reached_next : (x : Life) (o : Order) → Reached g F x → InRange o → Reached g F (next x o)
  reached_next x o R a = record {
    orders = R.orders ++ (o ∷ []);
    range = range_further R.orders o R.range a;
    is = live_further (born (fresh g F)) R.orders o ∙ ap (λ y. next y o) R.is;
  }

  pub reached_live : (x : Life) (os : List Order) → Reached g F x → AllInRange os → Reached g F (live x os)
  reached_live x [] R a = R
  reached_live x (o ∷ os) R a = reached_live (next x o) os (reached_next x o R a.0) a.1

  pub reached_sound : (x : Life) → Reached g F x → Sound x.state
  reached_sound x R = subst (λ (y : Life). Sound y.state) R.is (now_sound g F q h R.orders R.range)

  pub reached_settings : (x : Life) → Reached g F x → x.state.settings ≡ g
  reached_settings x R = subst (λ (y : Life). y.state.settings ≡ g) R.is (now_settings g F q h R.orders R.range)

  -- is what its history makes of it, every place included
  pub reached_made : (x : Life) → Reached g F x → Made g F x.past x.state
  reached_made x R = subst (λ (y : Life). Made g F y.past y.state) R.is (now_made g F q h R.orders R.range)

  -- means what its history makes of it
  pub reached_means : (x : Life) → Reached g F x → Means g F x.past (meaning x.state)
  reached_means x R = subst (λ (y : Life). Means g F y.past (meaning y.state)) R.is (record {
    settings = now_settings g F q h R.orders R.range;
    floor = now_floor g F q h R.orders R.range;
    gaps = voids_of_history g F q h R.orders R.range;
    once = once_voids 0 most_key (live (born (fresh g F)) R.orders).state.tree (now_sound g F q h R.orders R.range).ordered;
  })

  -- and its orders are answered right
  pub right : (x : Life) (o : Order) → Reached g F x → InRange o → let y = act x.state o in Right g F x.past o (seven y.reply y.count)
  right x o R a =
      let y = act x.state o in
      record {
        reply = y.reply;
        count = y.count;
        are = refl;
        before = meaning x.state;
        after = meaning y.after;
        means = reached_means x R;
        rule = act_rule x.state (reached_sound x R) o a;
        leaves = subst (λ p. Means g F p (meaning y.after)) (sym (heard_next g x o (reached_settings x R))) (reached_means (next x o) (reached_next x o R a));
      }

  -- what holds of each order's seven numbers holds of each order of a call
  pub each : (P : List Event → Order → List ℕ → Type 0)
      → ((x : Life) (o : Order) → Reached g F x → InRange o → let y = act x.state o in P x.past o (seven y.reply y.count))
      → (x : Life) (os : List Order) (rest : List ℕ) → Reached g F x → AllInRange os → Each P g x.past os (flat (sevens x.state os) ++ rest)
  each P f x [] rest R a = tt
  each P f x (o ∷ os) rest R a =
      let y = act x.state o in
      let xs = flat (sevens y.after os) in (
        rw (seven_take y.count xs rest y.reply) (f x o R a.0),
        rw (seven_take y.count xs rest y.reply, seven_drop y.count xs rest y.reply, heard_next g x o (reached_settings x R))
            (each P f (next x o) os rest (reached_next x o R a.0) a.1),
      )

-- ---- a memory that only these calls have changed holds such a link, and its history is what was heard
pub record Standing (g : Settings) (F : ℕ) (m : List ℕ) (past : List Event) : Type 0 where
  pub life : Life
  pub reached : Reached g F life
  pub sound : Sound life.state
  pub holds : Holds m life.state
  pub heard : life.past ≡ past

-- what the opening gave
pub begun : {g : Settings} {F : ℕ} {past : List Event} {m : List ℕ} → Since g F past m → (in_bounds g ≡ true) × (F ≤ last_moment)
begun (opened before bytes used o b a z q) = let B = opened_begun before bytes used o b a z q in (B.bounds, B.floor)
begun (more S c) = begun S

pub standing : {g : Settings} {F : ℕ} {past : List Event} {m : List ℕ} → Since g F past m → Standing g F m past
standing {g} {F} (opened before bytes used o b a z q) =
    let B = opened_begun before bytes used o b a z q in
    let R : Reached g F (born (fresh g F)) = record { orders = []; range = tt; is = refl } in
    record { life = born (fresh g F); reached = R; sound = reached_sound g F B.bounds B.floor _ R; holds = B.holds; heard = refl }
standing {g} {F} (more {past} {m} {m'} {orders} {numbers} S c) =
    let B = begun S in
    let T = standing S in
    let x = T.life in
    let W = call_went c x.state T.sound T.holds in
    let R = reached_live g F B.0 B.1 x orders T.reached W.range in
    record {
      life = live x orders;
      reached = R;
      sound = reached_sound g F B.0 B.1 _ R;
      holds = subst (Holds m') (sym (live_after x orders)) W.holds;
      heard = sym (heard_all_lem g x orders W.rest (reached_settings g F B.0 B.1 x T.reached))
          ∙ ap (λ a. heard_all g orders a x.past) (sym W.answers) ∙ ap (heard_all g orders numbers) T.heard;
    }

-- the tree of a history is that of every link that orders have made of a fresh one with this history
pub tree_reached : {g : Settings} {F : ℕ} {past : List Event} (x : Life) (T : Tree) → Reached g F x → x.past ≡ past → TreeOf g F past T → T ≡ x.state.tree
tree_reached {g} {F} {past} x T R e (m, S, t) =
    let B = begun S in
    let U = standing S in
    let made : (y : Life) → Reached g F y → y.past ≡ past → Made g F past y.state = λ y Q p. subst (λ h. Made g F h y.state) p (reached_made g F B.0 B.1 y Q) in
    let q = made_one g F past U.life.state x.state (made U.life U.reached U.heard) (made x R e) in
    one_tree t U.holds.stands ∙ ap (λ (s : State). s.tree) q

module _ {g : Settings} {F : ℕ} {past : List Event} {m : List ℕ} (S : Since g F past m) where
  -- what the link in the memory means is what the history makes of it
  pub standing_means : Means g F past (meaning (standing S).life.state)
  standing_means = let T = standing S in subst (λ p. Means g F p (meaning T.life.state)) T.heard (reached_means g F (begun S).0 (begun S).1 T.life T.reached)

  -- what holds of each order on a link that orders have made of a fresh one holds of each order of a further call, single or in a run
  pub each_call : (P : List Event → Order → List ℕ → Type 0)
      → ((x : Life) (o : Order) → Reached g F x → InRange o → let y = act x.state o in P x.past o (seven y.reply y.count))
      → {m' numbers : List ℕ} {orders : List Order} → Call m orders numbers m' → Each P g past orders numbers
  each_call P f {numbers} {orders} c =
      let T = standing S in
      let W = call_went c T.life.state T.sound T.holds in
      subst (λ p. Each P g p orders numbers) T.heard (subst (Each P g T.life.past orders) (sym W.answers) (each g F (begun S).0 (begun S).1 P f T.life orders W.rest T.reached W.range))
