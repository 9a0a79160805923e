-- What the search over the starts promises in memory: of every state that the memory holds, what it came to is what `seek` says.
use Rattle.std.specs.Prelude.{◌≡◌, Option, Some, None, IfSome, List, ◌∷◌, drop, ℕ, zero, suc, ◌+◌, ◌*◌, ◌≤◌}
use Rattle.rule.specs.Key.{per_tick}
use Rattle.rule.specs.Moments.{last_moment}
use Rattle.rule.specs.Starts.{Start, delayed, starts}
use Rattle.node.specs.Layout.{root_seat}
use Rattle.tracing.specs.Ways.{Serves}
use Rattle.state.specs.State.{State}
use Rattle.state.specs.Act.{Sought, nowhere, found, Seeking, seek}
use Rattle.memory.specs.Holds.{Holds}
use Rattle.memory.specs.Steps.{Pointed}
use Rattle.seeking.specs.declared.Taken.{Taken}
use Rattle.search.specs.declared.Foreseen.{Foreseen}
use Rattle.seeking.specs.declared.Tried.{Tried}

-- the starts from a line on
abbrev pub starts_from : List ℕ → (r h m line : ℕ) → List Start
starts_from delays r h m zero = starts delays r h m
starts_from delays r h m (suc i) = delayed r h m i (drop i delays)

-- a line's start in front of others, if there is one
abbrev pub in_front : Option ℕ → (line : ℕ) → List Start → List Start
in_front (Some b) i xs = record { line = i; moment = b } ∷ xs
in_front None i xs = xs

-- o is the start on that line, if it is tried; its channel is free by the last moment
abbrev pub StartsOn : (line r h m : ℕ) → Option ℕ → List ℕ → Type 0
StartsOn i r h m o mem =
    ((s : State) → Holds mem s → starts_from s.settings.delays r h m i ≡ in_front o i (starts_from s.settings.delays r h m (suc i)))
    × IfSome o (λ b. b + h ≤ last_moment)

-- how far down the way to what is taken is noted (0 where nothing is)
abbrev pub noted_of : Option Taken → ℕ
noted_of (Some t) = t.leaf.noted
noted_of None = 0

-- and what is noted ahead of it
abbrev pub ahead_of : Option Taken → Foreseen
ahead_of (Some t) = t.ahead
ahead_of None = record { deep = 0; after = 0 }

-- the code's struct for what the search over the starts came to; what is noted is told beside it
abbrev pub taken_at : (x : Tried) → (count : ℕ) → Sought → Tried
taken_at x n nowhere = record { taken = None; count = n }
taken_at x n (found i r k e) =
    record { taken = Some (record { line = i; start = r; leaf = record { key = k; end = e; noted = noted_of x.taken }; ahead = ahead_of x.taken }); count = n }

abbrev pub taken_of : (x : Tried) → Seeking → Tried
taken_of x y = taken_at x y.count y.out

abbrev pub Seeks : (r h m : ℕ) → Tried → List ℕ → Type 0
Seeks r h m x mem = (s : State) → Holds mem s → x ≡ taken_of x (seek s.tree h (starts s.settings.delays r h m))

-- what was taken is where the way noted leads
abbrev pub Points : (m ws : List ℕ) → Tried → Type 0
Points m ws x = IfSome x.taken (λ t. Pointed m ws t.leaf.noted t.leaf.key t.leaf.end)

-- and the other way is that of every key from the burst's end on and below `after`
abbrev pub Foresees : (h : ℕ) → (m ws : List ℕ) → Tried → Type 0
Foresees h m ws x = IfSome x.taken (λ t. Serves m root_seat ((t.start + h) * per_tick) t.ahead.after t.ahead.deep ws)
