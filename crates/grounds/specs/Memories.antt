-- What the memory laws give of a call's promise: a memory holds one link, and a link that has become another fixes every byte.
-- 01, How much a promise has to say: "a single possible answer and a single content of the lent memory and tally".
use Rattle.std.specs.Prelude.{◌≡◌, refl, List, ℕ, length}
use Rattle.std.proofs.Common.{sym, subst, inl, inr, arith}
use Rattle.numbers.specs.Words.{Bytes, word}
use Rattle.tally.specs.declared.Tally.{Tally}
use Rattle.order.specs.Records.{reading}
use Rattle.shape.specs.Tree.{size}
use Rattle.state.specs.State.{State}
use Rattle.state.specs.Sound.{Sound}
use Rattle.state.specs.Places.{Placed}
use Rattle.memory.specs.Holds.{Holds, After}
use Rattle.memory.proofs.Same.{one_link, determined, one_after}
use Rattle.stepping.specs.Step.{step_on}
use Rattle.calls.specs.declared.act.Done.{Done}
use Rattle.running.specs.declared.RunDone.{RunDone}
use Rattle.calls.specs.declared.tell.Told.{Told}
use Rattle.running.specs.Run.{run_on}
use Rattle.running.specs.Runs.{Gives, RunsTo, RunsNot, Runs}
use Rattle.calls.specs.Calls.{StepsTo, ActsNot, Acts, Tells}

-- what a run gives is its parts
pub whole_run : (x : RunDone) → x ≡ record { tally = x.tally; ran = record { code = x.ran.code; place = x.ran.place; answered = x.ran.answered } }
whole_run x = refl

pub placed : {s : State} → Sound s → Placed s
placed W = record { all = W.all; many = W.many }

-- a memory holds one whole link
pub same_link : (m : List ℕ) (s s' : State) → Sound s → Holds m s → Sound s' → Holds m s' → s ≡ s'
same_link m s s' W H W' H' = one_link m s s' H (placed W) H' (placed W')

-- two promises of one memory speak of one link, or both of none
pub gives_both : (m : List ℕ) (f f' : State → Type 0) (b b' C : Type 0) → Gives m f b → Gives m f' b'
    → ((s : State) → Sound s → Holds m s → f s → f' s → C) → (b → b' → C) → C
gives_both m f f' b b' C (inl x) (inl y) g h = g x.0 x.1 x.2 x.3 (subst f' (sym (same_link m x.0 y.0 x.1 x.2 y.1 y.2)) y.3)
gives_both m f f' b b' C (inl x) (inr y) g h = absurd (y.0 (x.0, x.1, x.2))
gives_both m f f' b b' C (inr x) (inl y) g h = absurd (x.0 (y.0, y.1, y.2))
gives_both m f f' b b' C (inr x) (inr y) g h = h x.1 y.1

-- of a memory that is known to hold a whole link
gives_whole : (m : List ℕ) (f : State → Type 0) (b : Type 0) → Gives m f b → (s : State) → Sound s → Holds m s → f s
gives_whole m f b (inl x) s W H = subst f (same_link m x.0 s x.1 x.2 W H) x.3
gives_whole m f b (inr x) s W H = absurd (x.0 (s, W, H))

pub acts_on : (t : Tally) (bytes m m' : List ℕ) (d : Done) → Acts t bytes d m m' → (s : State) → Sound s → Holds m s → StepsTo (step_on s t (reading bytes)) d m m'
acts_on t bytes m m' d = gives_whole m (λ s. StepsTo (step_on s t (reading bytes)) d m m') (ActsNot t d m m')

pub runs_on : (t : Tally) (bytes m m' out out' : List ℕ) (x : RunDone) → Runs t bytes x m m' out out' → (s : State) → Sound s → Holds m s
    → RunsTo (run_on s t (length out) bytes) x m m' out out'
runs_on t bytes m m' out out' x = gives_whole m (λ s. RunsTo (run_on s t (length out) bytes) x m m' out out') (RunsNot t x m m' out out')

pub tells_of : (m : List ℕ) (x : Told) → Tells x m → (s : State) → Sound s → Holds m s → x ≡ record { code = 0; voids = size s.tree }
tells_of m x = gives_whole m (λ s. x ≡ record { code = 0; voids = size s.tree }) (x ≡ record { code = 2; voids = 0 })

-- one memory after
pub after_one : (m m' m'' : List ℕ) (s : State) → Sound s → Bytes m' → Bytes m'' → After m m' s → After m m'' s → m' ≡ m''
after_one m m' m'' s W = one_after m m' m'' s (placed W)

-- a link that is left is a memory that is left
pub after_same : (m m' : List ℕ) (s : State) → Sound s → Bytes m → Bytes m' → Holds m s → After m m' s → m' ≡ m
after_same m m' s W x y H A = sym (determined m m' s (placed W) x y H A.holds A.past)

-- the room is the memory's first word
pub room_is : {m : List ℕ} {s : State} → Holds m s → word m 0 ≡ s.settings.room
room_is H = H.heads 0 (omega arith)
