-- The way up, step by step: by a balance (Rising) and by summing up (Settling), to the first seat of the way, the root's.
use mathlib.Core.Path.{◌≡◌, sym, ap, subst, ◌∙◌}
use mathlib.Core.List.{List}
use Prim.Native.Nat.{ℕ, zero, suc, ◌+◌, ◌-◌, ◌≤◌}
use native.Mathlib.Omega.{arith}
use lib.ListN.{get_or}
use Rattle.node.specs.declared.Node.{Node}
use Rattle.node.specs.Layout.{Within, node_at, Summable, Summed, home}
use Rattle.turning.proofs.Balancing.{mendable_both}
use Rattle.turning.specs.Turns.{Both, Balances}
use Rattle.tracing.specs.Ways.{Leads, Way}
use Rattle.rising.specs.Changes.{Change, key_of, Ready, Becomes}
use Rattle.rising.specs.Rises.{gone, Turned, Rising, Settling}
use Rattle.rising.proofs.Steps.{ready_down, Step, step_at, carries, sums_up, stays}

-- what the change asks stands at every seat of the way
pub ready_at : (c : Change) (m0 : List ℕ) (t d : ℕ) (ws : List ℕ) → Ready c m0 t → Way m0 t (key_of c) d ws → (i : ℕ) → i ≤ d → Ready c m0 (get_or ws i 0)
ready_at c m0 t d ws b W zero h = rw W.first b
ready_at c m0 t d ws b W (suc i) h = ready_down c m0 _ _ (W.leads i (omega arith)) (ready_at c m0 t d ws b W i (omega arith))

module _ (c : Change) (m0 : List ℕ) (t d : ℕ) (ws : List ℕ) where
  abbrev at : ℕ → ℕ
  at i = get_or ws i 0

  module _ (j : ℕ) (m : List ℕ) (R : Rising c m0 t d ws (suc j) m) where
    leads : Leads m0 (key_of c) (at j) (at (suc j))
    leads = R.way.leads j (omega (arith, R.deep))

    ready : Ready c m0 (at j)
    ready = ready_at c m0 t d ws R.begun R.way j (omega (arith, R.deep))

    inner : 1 ≤ gone c → (node_at m0 (at (suc j))).height ≡ 0 → ⊥
    inner h = (R.way.leads (suc j) (omega (arith, R.deep))).inner

    step : Step c m0 (at j) (at (suc j)) leads m R.is inner
    step = step_at c m0 (at j) (at (suc j)) leads m R.is inner ready

    rising_both : Both m (at j) (home (at (suc j)))
    rising_both = step.both

    rising_in : Within m (at j)
    rising_in = rising_both.4.room

    rising_node : node_at m (at j) ≡ node_at m0 (at j)
    rising_node = step.node

    rising_next : Turned c → (m2 : List ℕ) → Balances (at j) (home (at (suc j))) m m2 → Rising c m0 t d ws j m2
    rising_next T m2 o =
        record {
          begun = R.begun;
          way = R.way;
          deep = omega (arith, R.deep);
          is = carries c m0 (at j) (at (suc j)) leads m R.is inner T m2 o;
        }

  -- as high as it was: from here on by summing up
  pub rising_settling : (j : ℕ) (m : List ℕ) → Rising c m0 t d ws j m → (n n2 : Node) → n ≡ node_at m0 (at j) → n2 ≡ node_at m (at j) → n2.height ≡ n.height → Settling c m0 t d ws j m
  rising_settling j m R n n2 en en2 h =
      record { rising = R; high = sym (ap (λ (z : Node). z.height) en2) ∙ (h ∙ ap (λ (z : Node). z.height) en) }

  -- by summing up
  module _ (j : ℕ) (m : List ℕ) (S : Settling c m0 t d ws (suc j) m) where
    settling_in : Summable m (at j) (home (at (suc j)))
    settling_in = (mendable_both m (at j) (home (at (suc j))) (rising_both j m S.rising)).sums

    settling_node : node_at m (at j) ≡ node_at m0 (at j)
    settling_node = rising_node j m S.rising

    settling_next : (m2 : List ℕ) → Summed (at j) (home (at (suc j))) m m2 → Settling c m0 t d ws j m2
    settling_next m2 o =
        let R = S.rising in
        record {
          rising = record {
            begun = R.begun;
            way = R.way;
            deep = omega (arith, R.deep);
            is = sums_up c m0 (at j) (at (suc j)) (leads j m R) m R.is (inner j m R) S.high m2 o;
          };
          high = ap (λ (z : Node). z.height) o.at ∙ ap (λ (z : Node). z.height) settling_node;
        }

    -- nothing has changed at the seat, nor does it above
    settling_still : node_at m (at (suc j)) ≡ node_at m0 (at (suc j)) → Settling c m0 t d ws j m
    settling_still e = let R = S.rising in settling_next m (stays c m0 (at j) (at (suc j)) (leads j m R) m R.is (inner j m R) e (ready j m R))

  -- at the root
  pub risen : (i : ℕ) → i ≤ 0 → (m : List ℕ) → Rising c m0 t d ws i m → Becomes c t m0 m
  risen zero h m R = rw R.way.first at R.is
  risen (suc i) h m R = absurd (omega arith)

  pub settled : (i : ℕ) → i ≤ 0 → (m : List ℕ) → Settling c m0 t d ws i m → Becomes c t m0 m
  settled i h m S = risen i h m S.rising

  stopped : (i : ℕ) (m : List ℕ) → Settling c m0 t d ws i m → node_at m (at i) ≡ node_at m0 (at i) → Becomes c t m0 m
  stopped zero m S e = settled zero (omega arith) m S
  stopped (suc i) m S e = stopped i m (settling_still i m S e) (settling_node i m S)

  -- a seat whose sums stay: the way above it stays too
  halted : (j : ℕ) (m m2 : List ℕ) → Settling c m0 t d ws (suc j) m → Summed (at j) (home (at (suc j))) m m2 → m2 ≡ m → Becomes c t m0 m2
  halted j m m2 S o e = stopped j m2 (settling_next j m S m2 o) (rw e (settling_node j m S))

  -- ---- the same from the seat i to the one before it
  module _ (i : ℕ) (h : 1 ≤ i) where
    next : suc (i - 1) ≡ i
    next = omega arith

    plain : suc (i - 1) ≡ i - 1 + 1
    plain = omega arith

    module _ (m : List ℕ) (R : Rising c m0 t d ws i m) where
      back : Rising c m0 t d ws (suc (i - 1)) m
      back = subst (λ z. Rising c m0 t d ws z m) (sym next) R

      pub both_above : Both m (at (i - 1)) (home (at (i - 1 + 1)))
      both_above = subst (λ z. Both m (at (i - 1)) (home (at z))) plain (rising_both (i - 1) m back)

      pub within_above : Within m (at (i - 1))
      within_above = rising_in (i - 1) m back

      pub node_above : node_at m (at (i - 1)) ≡ node_at m0 (at (i - 1))
      node_above = rising_node (i - 1) m back

      pub rises : Turned c → (m2 : List ℕ) → Balances (at (i - 1)) (home (at (i - 1 + 1))) m m2 → Rising c m0 t d ws (i - 1) m2
      rises T m2 o = rising_next (i - 1) m back T m2 (subst (λ z. Balances (at (i - 1)) (home (at z)) m m2) (sym plain) o)

    module _ (m : List ℕ) (S : Settling c m0 t d ws i m) where
      back_settling : Settling c m0 t d ws (suc (i - 1)) m
      back_settling = subst (λ z. Settling c m0 t d ws z m) (sym next) S

      pub summable_above : Summable m (at (i - 1)) (home (at (i - 1 + 1)))
      summable_above = subst (λ z. Summable m (at (i - 1)) (home (at z))) plain (settling_in (i - 1) m back_settling)

      module _ (m2 : List ℕ) (o : Summed (at (i - 1)) (home (at (i - 1 + 1))) m m2) where
        summed : Summed (at (i - 1)) (home (at (suc (i - 1)))) m m2
        summed = subst (λ z. Summed (at (i - 1)) (home (at z)) m m2) (sym plain) o

        pub settles : Settling c m0 t d ws (i - 1) m2
        settles = settling_next (i - 1) m back_settling m2 summed

        pub halts : m2 ≡ m → Becomes c t m0 m2
        halts e = halted (i - 1) m m2 back_settling summed e
