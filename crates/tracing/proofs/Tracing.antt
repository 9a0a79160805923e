-- The steps of noting a way down: one seat more, as long as the seat reached is no leaf's.
use mathlib.Core.Path.{◌≡◌, refl, sym, ap, ◌∙◌}
use mathlib.Core.Bool.{true}
use mathlib.Core.List.{List, ◌∷◌}
use Prim.Native.Nat.{ℕ, zero, suc, ◌+◌, ◌<◌, ◌≤◌}
use native.Mathlib.Decide.{ℕ_discrete}
use native.Mathlib.Omega.{arith}
use lib.Dec.{ltb}
use lib.ListN.{length, get_or, set, length-set}
use lib.Seq.{get_or-set_same}
use Rattle.node.specs.declared.Node.{Node}
use Rattle.node.specs.Layout.{Within, node_at}
use Rattle.node.specs.Paths.{longest_way}
use Rattle.tracing.specs.Alone.{Alone}
use Rattle.tracing.specs.Ways.{Leads, Way, Partway}
use Rattle.node.proofs.Reps.{tall}
use Rattle.node.proofs.Paths.{noted, noted_here}
use Rattle.node.proofs.Seats.{near_of, far_of, small_place}
use Rattle.tracing.proofs.Below.{within_alone, down}

-- the way is noted down to the seat `at`, d steps below t, where the node n was read
pub record Tracing (m : List ℕ) (t k : ℕ) (ws0 ws : List ℕ) (at d : ℕ) (n : Node) : Type 0 where
  pub read : n ≡ node_at m at
  pub alone : Alone m at
  pub len : length ws ≡ length ws0
  pub room : (node_at m at).height + d < length ws
  pub short : (node_at m at).height + d < longest_way
  pub here : get_or ws d 0 ≡ at
  pub first : get_or ws 0 0 ≡ t
  pub leads : (i : ℕ) → i < d → Leads m k (get_or ws i 0) (get_or ws (suc i) 0)

-- the seats noted already go down a tree that stands alone, one lower at each step
module _ (m : List ℕ) (t k : ℕ) (ws : List ℕ) (d : ℕ) (P : Partway m t k d ws) where
  abbrev At : ℕ → Type 0
  At i = Alone m (get_or ws i 0) × ((node_at m (get_or ws i 0)).height + i < longest_way)

  noted_at : (i : ℕ) → i ≤ d → At i
  noted_at zero h = rw P.first (P.alone, omega (arith, P.alone.1.low, tall P.alone.1.stands))
  noted_at (suc i) h =
      let A = noted_at i (omega arith) in
      let L = P.leads i (omega arith) in
      let D = down m (get_or ws i 0) (node_at m (get_or ws i 0)) refl L.inner (ltb k (node_at m ((node_at m (get_or ws i 0)).place + 4)).lo) (get_or ws (suc i) 0) _ L.to refl A.0 in
      (D.near_alone, omega (arith, A.1, D.lower))

  pub noted_low : (d < longest_way) × (d < length ws)
  noted_low = omega (arith, (noted_at d (omega arith)).1, P.long)

  pub noted_in : Within m (get_or ws d 0)
  noted_in = within_alone m (get_or ws d 0) (noted_at d (omega arith)).0

  pub tracing_start : (n : Node) → n ≡ node_at m (get_or ws d 0) → Tracing m t k ws ws (get_or ws d 0) d n
  tracing_start n e =
      let A = noted_at d (omega arith) in
      record { read = e; alone = A.0; len = refl; room = omega (arith, A.1, P.long); short = A.1; here = refl; first = P.first; leads = P.leads }

-- nothing is noted but the root
pub partway_root : (m : List ℕ) (t k : ℕ) (ws : List ℕ) → longest_way ≤ length ws → Alone m t → Partway m t k 0 (set ws 0 t)
partway_root m t k ws h a =
    record { long = omega (arith, length-set ws 0 t); first = get_or-set_same ws 0 t 0 (omega arith); leads = λ i l. absurd (omega arith); alone = a }

module _ (m : List ℕ) (t k : ℕ) (ws0 ws : List ℕ) (at d : ℕ) (n : Node) (T : Tracing m t k ws0 ws at d n) where
  pub traced : n.height ≡ 0 → Way m t k d ws
  traced z =
      record {
        long = omega (arith, T.room);
        short = omega (arith, T.short);
        first = T.first;
        leads = T.leads;
        last = rw T.here (sym (ap (λ (y : Node). y.height) T.read) ∙ z);
      }

  -- where the children of the node read stand
  pub place_small : n.place < 65536
  place_small = small_place m at n T.read T.alone.1.stands

  pub right_in : (n.height ≡ 0 → ⊥) → (y : ℕ) → y ≡ far_of true n.place → Within m y
  right_in nz y ey = (down m at n T.read nz true _ y refl ey T.alone).far_in

  -- v is the node on the right, and x the seat that its least key leads to
  module _ (nz : n.height ≡ 0 → ⊥) (y : ℕ) (ey : y ≡ far_of true n.place) (v : Node) (ev : v ≡ node_at m y)
      (x : ℕ) (ex : x ≡ near_of (ltb k v.lo) n.place) where
    abbrev D : Type 0
    D = Alone m x × ((node_at m x).height < (node_at m at).height)

    below : D
    below = let d = down m at n T.read nz (ltb k v.lo) x _ ex refl T.alone in (d.near_alone, d.lower)

    pub next_in : Within m x
    next_in = within_alone m x below.0

    pub deeper : (d + 1 < length ws) × (d + 1 < longest_way)
    deeper = omega (arith, T.room, T.short, below.1)

    leads_here : Leads m k at x
    leads_here = record { inner = λ z. nz (ap (λ (y : Node). y.height) T.read ∙ z); to = rw (← T.read) (rw (ev, ey) at ex) }

    pub tracing_next : (n' : Node) → n' ≡ node_at m x → Tracing m t k ws0 (set ws (d + 1) x) x (d + 1) n'
    tracing_next n' e =
        record {
          read = e;
          alone = below.0;
          len = length-set ws (d + 1) x ∙ T.len;
          room = omega (arith, T.room, below.1, length-set ws (d + 1) x);
          short = omega (arith, T.short, below.1);
          here = get_or-set_same ws (d + 1) x 0 deeper.0;
          first = noted ws d x 0 (omega arith) ∙ T.first;
          leads = λ i l. go i l;
        }
      where
        go : (i : ℕ) → i < d + 1 → Leads m k (get_or (set ws (d + 1) x) i 0) (get_or (set ws (d + 1) x) (suc i) 0)
        go i l = elim (ℕ_discrete i d) [
          | yes e ↦ rw (e, noted ws d x d (omega arith), T.here, noted_here ws d x deeper.0) leads_here
          | no q ↦ rw (noted ws d x i (omega arith), noted ws d x (suc i) (omega arith)) (T.leads i (omega arith))
        ]

    pub lower : (n' : Node) → n' ≡ node_at m x → n'.height < n.height
    lower n' e = omega (arith, ap (λ (y : Node). y.height) e, ap (λ (y : Node). y.height) T.read, below.1)

pub partway_head : (m : List ℕ) (t k : ℕ) (ws : List ℕ) → longest_way ≤ length (t ∷ ws) → Alone m t → Partway m t k 0 (t ∷ ws)
partway_head m t k ws h a = record { long = h; first = refl; leads = λ i l. absurd (omega arith); alone = a }

-- the seat reached is the one noted last
pub tracing_at : {m : List ℕ} {t k : ℕ} {ws0 ws : List ℕ} {at d : ℕ} {n : Node} → Tracing m t k ws0 ws at d n → Tracing m t k ws0 ws (get_or ws d 0) d n
tracing_at T = rw T.here T
