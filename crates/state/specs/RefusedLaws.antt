-- "Every code but 0 leaves link memory as it stood before that record" (01), as far as the state goes.
use Rattle.std.specs.Prelude.{◌≡◌, refl, ℕ, zero, suc}
use Rattle.std.proofs.Common.{arith}
use Rattle.rule.specs.Fit.{hold}
use Rattle.rule.specs.Starts.{starts}
use Rattle.rule.specs.Order.{Order, booking, sweep}
use Rattle.rule.specs.Answer.{Reply, swept, refused}
use Rattle.rule.specs.Codes.{booking_code, sweep_code, chosen_reply}
use Rattle.shape.specs.Tree.{size}
use Rattle.state.specs.State.{State}
use Rattle.state.specs.Act.{Sought, seek, choice, carried, book_as, sweep_as, act}

carried_same : (s : State) (h : ℕ) (y : Reply) (o : Sought) (x : ℕ) → y ≡ refused x → carried s h y o ≡ s
carried_same s h y o x q = rw q

swept_never : (n x : ℕ) → swept n ≡ refused x → ⊥
swept_never n x q = let z : ◌≡◌ {A = ℕ} 0 1 = cc q in omega arith

-- a refused order leaves the state
pub refused_same : (s : State) (o : Order) (x : ℕ) → (act s o).reply ≡ refused x → (act s o).after ≡ s
refused_same s (booking r l m) x = go (booking_code s.settings s.floor r l m)
  where
    go : (code : ℕ) → (book_as code s r l m).reply ≡ refused x → (book_as code s r l m).after ≡ s
    go zero q =
        let h = hold s.settings l in
        let u = (seek s.tree h (starts s.settings.delays r h m)).out in
        carried_same s h (chosen_reply s.settings s.floor (size s.tree) l (choice u)) u x q
    go (suc c) q = refl
refused_same s (sweep moment) x = go (sweep_code s.settings s.floor moment)
  where
    go : (code : ℕ) → (sweep_as code s moment).reply ≡ refused x → (sweep_as code s moment).after ≡ s
    go zero q = absurd (swept_never _ x q)
    go (suc c) q = refl
