-- What an order does to a state: the answer, its count, and the state after, as one total function.
-- The search is the published one (shape's Visits), so the count is the published count by definition.
use Rattle.std.specs.Prelude.{List, [], ◌∷◌, ◌++◌, ℕ, zero, suc, ◌+◌}
use Rattle.numbers.specs.Case.{pick}
use Rattle.rule.specs.Fit.{hold, free}
use Rattle.rule.specs.Starts.{Start, starts}
use Rattle.rule.specs.Choice.{Choice, nothing, taken}
use Rattle.rule.specs.Kept.{least, stays, kept}
use Rattle.rule.specs.Order.{Order, booking, sweep}
use Rattle.rule.specs.Answer.{Reply, booked, swept, refused}
use Rattle.rule.specs.Codes.{booking_code, sweep_code, chosen_reply}
use Rattle.rule.specs.Key.{key_of, start_of, channel_of}
use Rattle.shape.specs.Tree.{Tree, size, weight}
use Rattle.shape.specs.Visits.{Out, none, some, published}
use Rattle.shape.specs.Clear.{Rest, gone, rest, clear, freed}
use Rattle.state.specs.State.{State, with_tree, shorten, add, drop, with_floor}

-- ---- the search over the starts tried, in their order, with its count
pub data Sought : Type 0 where
  nowhere : Sought
  found : (line start key end : ℕ) → Sought

pub record Seeking : Type 0 where
  pub out : Sought
  pub count : ℕ

-- at a start: "Trying stops at the first start that has a fit"; "An order's count is the sum over the start times tried"
abbrev pub try_next : Start → Out → (visits : ℕ) → Seeking → Seeking
try_next x (some k e) n y = record { out = found x.line x.moment k e; count = n }
try_next x none n y = record { out = y.out; count = n + y.count }

-- h: the ticks for which the burst holds its channel
abbrev pub seek : Tree → (h : ℕ) → List Start → Seeking
seek t h [] = record { out = nowhere; count = 0 }
seek t h (x ∷ xs) =
    let z = published x.moment (free x.moment h) t in
    try_next x z.out z.visits (seek t h xs)

abbrev pub choice : Sought → Choice
choice nowhere = nothing
choice (found i r k e) = taken i r (channel_of k) (start_of k) e

-- ---- the void of the key, which ends at e, gives the time from r up to f: its pieces in front and behind, if they are kept
unfoldable pub split : State → (k e r f : ℕ) → State
split s k e r f =
    pick (kept s.floor (start_of k) r)
    (pick (kept s.floor f e) (add (shorten s k r) (key_of f (channel_of k)) e) (shorten s k r))
    (pick (kept s.floor f e) (drop (add s (key_of f (channel_of k)) e) k) (drop s k))

-- ---- an order acted on
pub record Outcome : Type 0 where
  pub reply : Reply
  pub count : ℕ
  pub after : State

abbrev pub refusal : State → (code : ℕ) → Outcome
refusal s code = record { reply = refused code; count = 0; after = s }

-- what is found is booked, unless it is refused
abbrev pub carried : State → (h : ℕ) → Reply → Sought → State
carried s h (booked c i r f) (found i' r' k e) = split s k e r' (free r' h)
carried s h (booked c i r f) nowhere = s
carried s h (swept d) x = s
carried s h (refused code) x = s

abbrev pub book_found : State → (l : ℕ) → Seeking → Outcome
book_found s l x =
    let reply = chosen_reply s.settings s.floor (size s.tree) l (choice x.out) in
    record { reply = reply; count = x.count; after = carried s (hold s.settings l) reply x.out }

abbrev pub book_as : (code : ℕ) → State → (r l m : ℕ) → Outcome
book_as zero s r l m = book_found s l (seek s.tree (hold s.settings l) (starts s.settings.delays r (hold s.settings l) m))
book_as (suc x) s r l m = refusal s (suc x)

-- ---- a sweep: the voids that end too early go, all at once
-- how many they are
abbrev pub to_drop : (moment : ℕ) → Tree → ℕ
to_drop moment t = weight (λ k e. pick (stays moment e) 0 1) (λ q. 0) t

-- (a link always keeps a void)
abbrev pub left_of : Tree → Rest → Tree
left_of t gone = t
left_of t (rest u) = u

-- without the voids that end before the bound; the places that come free are the first spare ones
unfoldable pub cleared : State → (bound : ℕ) → State
cleared s b = with_tree s (left_of s.tree (clear b s.tree)) (freed b s.tree ++ s.spares)

abbrev pub sweep_as : (code : ℕ) → State → (moment : ℕ) → Outcome
sweep_as zero s moment = record { reply = swept (to_drop moment s.tree); count = 0; after = with_floor (cleared s (least moment)) moment }
sweep_as (suc x) s moment = refusal s (suc x)

abbrev pub act : State → Order → Outcome
act s (booking r l m) = book_as (booking_code s.settings s.floor r l m) s r l m
act s (sweep moment) = sweep_as (sweep_code s.settings s.floor moment) s moment
