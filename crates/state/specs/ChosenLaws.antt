-- The search over the starts makes the rule's choice: the first start that has a fit, and there Min-SV.
use Rattle.std.specs.Prelude.{◌≡◌, refl, List, [], ◌∷◌, ℕ}
use Rattle.std.proofs.Common.{inl, inr}
use Rattle.rule.specs.Fit.{free}
use Rattle.rule.specs.Starts.{Start}
use Rattle.rule.specs.Choice.{NoFit, Chosen}
use Rattle.shape.specs.Tree.{Tree, Ord}
use Rattle.shape.specs.Voids.{VoidsIn}
use Rattle.shape.specs.Visits.{Out, none, some, published}
use Rattle.shape.specs.SearchLaws.{search_taken, search_nothing}
use Rattle.state.specs.Act.{Sought, nowhere, found, seek, choice}

past : (t : Tree) (h : ℕ) (x : Start) (xs : List Start) (q : Sought) → NoFit (VoidsIn t) x.moment (free x.moment h)
    → Chosen (VoidsIn t) h xs (choice q) → Chosen (VoidsIn t) h (x ∷ xs) (choice q)
past t h x xs nowhere n d = (n, d)
past t h x xs (found i r k e) n d = inr (n, d)

pub seek_chosen : (a b : ℕ) (t : Tree) → Ord a b t → (h : ℕ) (xs : List Start) → Chosen (VoidsIn t) h xs (choice (seek t h xs).out)
seek_chosen a b t o h [] = tt
seek_chosen a b t o h (x ∷ xs) = go (seek_chosen a b t o h xs) (published x.moment (free x.moment h) t).out refl
  where
    go : Chosen (VoidsIn t) h xs (choice (seek t h xs).out) → (w : Out) → (published x.moment (free x.moment h) t).out ≡ w
        → Chosen (VoidsIn t) h (x ∷ xs) (choice (seek t h (x ∷ xs)).out)
    go d none q = rw q (past t h x xs (seek t h xs).out (search_nothing a b x.moment (free x.moment h) t o q) d)
    go d (some k e) q = rw q (inl (refl, refl, search_taken a b x.moment (free x.moment h) t o k e q))
