-- Demands 2 and 3 as the user asks for them: what an order is answered over a set of voids, the leaves of a tree, all seven numbers. No bytes
-- of memory: which voids and which tree is said where it is used (promise's Demands.antt).
-- The seven numbers: code, channel, line, start, finish, count, dropped.
use Rattle.std.specs.Prelude.{◌≡◌, ◌⊎◌, ◌↔◌, false, List, [], ◌∷◌, ℕ, zero, suc, ◌+◌, ◌*◌, ◌≤◌}
use Rattle.numbers.specs.Case.{pick}
use Rattle.rule.specs.Moments.{open_end}
use Rattle.rule.specs.Settings.{Settings}
use Rattle.rule.specs.Fit.{hold, free}
use Rattle.rule.specs.Starts.{Start, starts}
use Rattle.rule.specs.Voids.{Voids}
use Rattle.rule.specs.Choice.{NoFit, MinSV}
use Rattle.rule.specs.Height.{Allowed}
use Rattle.rule.specs.Kept.{stays}
use Rattle.rule.specs.Key.{per_tick, key_of, start_of, channel_of}
use Rattle.rule.specs.Order.{Order, booking, sweep}
use Rattle.rule.specs.Codes.{booking_code, sweep_code, too_many}
use Rattle.shape.specs.Tree.{Tree, Ord, In}
use Rattle.shape.specs.Visits.{none, some, published}

-- how many voids a set has: none; or there is one, and n besides it
abbrev pub Many : (n : ℕ) → Voids → Type 0
Many zero W = (c s e : ℕ) → ¬ (W c s e)
Many (suc n) W = (c : ℕ) × (s : ℕ) × (e : ℕ) × W c s e × Many n (λ c' s' e'. W c' s' e' × (¬ ((c' ≡ c) × (s' ≡ s) × (e' ≡ e))))

-- "The voids are the leaves of a binary tree, from left to right by rising start, equal starts by falling channel"
abbrev pub Leaves : Voids → Tree → Type 0
Leaves W T = Ord 0 (open_end * per_tick) T × ((c s e : ℕ) → W c s e ↔ ((k : ℕ) × In k e T × (channel_of k ≡ c) × (start_of k ≡ s)))

-- (3) "at most t(8⌊log2 m⌋+1)": n visits for t starts tried, with m voids kept, whose tree may be 2⌊log2 m⌋ high
abbrev pub Bounded : (m t n : ℕ) → Type 0
Bounded m t n = (h : ℕ) (a : Allowed m h) → n ≤ t * (8 * a.whole + 1)

-- "A refusal has 0 in all but code and count"
abbrev pub refusal : (code count : ℕ) → List ℕ
refusal x n = x ∷ 0 ∷ 0 ∷ 0 ∷ 0 ∷ n ∷ 0 ∷ []

-- a booking of length l at the starts that are left, t having been tried with n visits: m voids W are kept, the leaves of the tree T.
-- None left: 7, "nothing fits at any start tried". "Trying stops at the first start that has a fit"; there Min-SV is taken, "the leaf where this
-- search ends", and it is 8 if "the void taken leaves two pieces and the room is full", else the booking
abbrev pub Tries : Voids → Tree → Settings → (floor m l : ℕ) → List Start → (t n : ℕ) → (numbers : List ℕ) → Type 0
Tries W T g floor m l [] t n a = (a ≡ refusal 7 n) × Bounded m t n
Tries W T g floor m l (x ∷ xs) t n a =
    let r = x.moment in
    let f = free r (hold g l) in
    let z = published r f T in
    let k = n + z.visits in
    (NoFit W r f × (z.out ≡ none) × Tries W T g floor m l xs (suc t) k a)
    ⊎ ((c : ℕ) × (s : ℕ) × (e : ℕ) × MinSV W r f c s e × (z.out ≡ some (key_of s c) e) × Bounded m (suc t) k × (a ≡ pick (too_many g floor m r f s e) (refusal 8 k) (0 ∷ c ∷ x.line ∷ r ∷ (r + l) ∷ k ∷ 0 ∷ [])))

-- a booking that none of the codes 3 to 6 refuses
abbrev pub Booked : Voids → Tree → Settings → (floor r l p : ℕ) → (numbers : List ℕ) → Type 0
Booked W T g floor r l p a = (m : ℕ) × Many m W × Leaves W T × Tries W T g floor m l (starts g.delays r (hold g l) p) 0 0 a

-- refused by the code, with count 0, unless that is 0
abbrev pub Unless : (code : ℕ) → Type 0 → (numbers : List ℕ) → Type 0
Unless zero P a = P
Unless (suc x) P a = a ≡ refusal (suc x) 0

-- what an order is answered by a link with settings g, at this floor, that keeps the voids W in the tree T.
-- A sweep to T "drops each void with e at or before T" (02, K3), "no others", and has "0 in all but dropped"
abbrev pub Answered : Settings → (floor : ℕ) → Voids → Tree → Order → (numbers : List ℕ) → Type 0
Answered g floor W T (booking r l p) a = Unless (booking_code g floor r l p) (Booked W T g floor r l p a) a
Answered g floor W T (sweep moment) a = Unless (sweep_code g floor moment) ((d : ℕ) × Many d (λ c s e. W c s e × (stays moment e ≡ false)) × (a ≡ 0 ∷ 0 ∷ 0 ∷ 0 ∷ 0 ∷ 0 ∷ d ∷ [])) a
