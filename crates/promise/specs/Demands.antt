-- Demands 2 and 3 for memory that only these calls have changed since an accepted opening: these are the theorems that a reader reads first.
-- What they name is in Session.antt and Answered.antt; `tools/believe` lists every definition behind them and counts its lines.
use Rattle.std.specs.Prelude.{◌≡◌, refl, List, ℕ, length}
use Rattle.std.proofs.Common.{sym, ◌∙◌, ap, subst, inl, inr}
use Rattle.tally.specs.declared.Tally.{Tally}
use Rattle.rule.specs.Settings.{Settings}
use Rattle.rule.specs.Order.{Order}
use Rattle.rule.specs.Answer.{seven, numbers_of}
use Rattle.order.specs.Records.{order, reading}
use Rattle.numbers.specs.Words.{Bytes}
use Rattle.shape.specs.Tree.{Tree}
use Rattle.node.specs.Layout.{root_seat}
use Rattle.node.specs.Rep.{Stands}
use Rattle.state.specs.Act.{act}
use Rattle.state.specs.History.{Event, floor_of, Stretches}
use Rattle.calls.specs.declared.act.Done.{Done}
use Rattle.running.specs.declared.RunDone.{RunDone}
use Rattle.calls.specs.declared.tell.Told.{Told}
use Rattle.running.specs.Runs.{Runs}
use Rattle.calls.specs.Calls.{Acts, Tells}
use Rattle.grounds.specs.Orders.{orders_in, orders_one}
use Rattle.grounds.specs.Session.{Call, acting, Since, TreeOf, Each}
use Rattle.grounds.specs.Answered.{Many, Answered}
use Rattle.grounds.proofs.RunLaws.{run_is_orders}
use Rattle.grounds.specs.Memories.{tells_of}
use Rattle.grounds.proofs.GapLaws.{begun, standing, standing_means, tree_reached, each_call}
use Rattle.grounds.proofs.AnsweredLaws.{answered, many}

-- (2) "each booking is the Min-SV fit by the statement's rules over the gaps that the whole accepted history leaves idle, and \"nothing
-- fits\" is said exactly if nothing fits"; (3) "the count of tree nodes visited is exactly the published search's, and at most
-- t(8⌊log2 m⌋+1)": of every order of a further call, single or in a run, accepted or refused, all seven numbers; the tree is the one that a
-- memory with the history before the order holds, and `tree_one` says that there is one
pub each_answered : {g : Settings} {F : ℕ} {past : List Event} {m m' numbers : List ℕ} {orders : List Order} → Since g F past m → Call m orders numbers m'
    → Each (λ before o a. (T : Tree) → TreeOf g F before T → Answered g (floor_of F before) (Stretches F g.channels before) T o a) g past orders numbers
each_answered {g} {F} S c =
    each_call S (λ before o a. (T : Tree) → TreeOf g F before T → Answered g (floor_of F before) (Stretches F g.channels before) T o a)
    (λ x o R a T t. let y = act x.state o in subst (λ u. Answered g (floor_of F x.past) (Stretches F g.channels x.past) u o (seven y.reply y.count)) (sym (tree_reached x T R refl t)) (answered g F (begun S).0 (begun S).1 x o R a)) c

-- the same of a single order, of which the bytes are read to be o, on the tree that the memory holds before it
pub order_answered : {g : Settings} {F : ℕ} {past : List Event} {m m' : List ℕ} (t : Tally) (bytes : List ℕ) (d : Done) (used : ℕ) (o : Order)
    → Since g F past m → Bytes bytes → Acts t bytes d m m' → reading bytes ≡ order used o
    → (T : Tree) × Stands m root_seat T × Answered g (floor_of F past) (Stretches F g.channels past) T o (numbers_of d.acted.answer)
order_answered {g} {F} {past} {m} t bytes d used o S b a q =
    let T = standing S in
    let E = subst (λ os. Each (λ before o a. (T : Tree) → TreeOf g F before T → Answered g (floor_of F before) (Stretches F g.channels before) T o a) g past os (numbers_of d.acted.answer))
    (orders_one 0 bytes used o q) (each_answered S (acting t bytes d b a)) in
    (T.life.state.tree, T.holds.stands, E.0 T.life.state.tree (m, S, T.holds.stands))

-- a history has one tree, in whichever memory
pub tree_one : {g : Settings} {F : ℕ} {past : List Event} (T U : Tree) → TreeOf g F past T → TreeOf g F past U → T ≡ U
tree_one T U (m, S, t) u = let X = standing S in tree_reached X.life T X.reached X.heard (m, S, t) ∙ sym (tree_reached X.life U X.reached X.heard u)

-- no order of a run is passed over: there are as many in its bytes as "the number of records answered"
pub every_order : {m m' : List ℕ} (t : Tally) (bytes out out' : List ℕ) (x : RunDone) → Runs t bytes x m m' out out' → length (orders_in x.ran.answered bytes) ≡ x.ran.answered
every_order t bytes out out' x (inl (s, W, H, A)) = rw A.answered (run_is_orders s t (length out) bytes).many
every_order t bytes out out' x (inr (n, A)) = rw A.answer

-- "tell the number of voids kept, with code 0": m is what a user is told
pub gaps_told : {g : Settings} {F : ℕ} {past : List Event} {m : List ℕ} (x : Told) → Since g F past m → Tells x m → (x.code ≡ 0) × Many x.voids (Stretches F g.channels past)
gaps_told {g} {F} {past} {m} x S a =
    let T = standing S in
    let e = tells_of m x a T.life.state T.sound T.holds in
    (ap (λ y. y.code) e, rw e (many T.life.state T.sound (Stretches F g.channels past) (standing_means S).gaps))
