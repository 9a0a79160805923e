-- The codes 7 and 8, exactly, of any reply that the rule allows.
use Rattle.std.specs.Prelude.{◌≡◌, refl, ◌↔◌, Bool, true, false, List, [], ◌∷◌, ℕ, zero, suc, ◌+◌, ◌≤◌, ltb, eqb, length}
use Rattle.std.proofs.Common.{sym, ◌∙◌, ap, inl, inr, arith}
use Rattle.numbers.specs.Case.{pick, case_le, case_eq}
use Rattle.rule.specs.Moments.{last_moment}
use Rattle.rule.specs.Settings.{Settings}
use Rattle.rule.specs.Fit.{hold, free}
use Rattle.rule.specs.Starts.{Start}
use Rattle.rule.specs.Kept.{pieces}
use Rattle.rule.specs.Voids.{Voids, Has, Meaning}
use Rattle.rule.specs.Choice.{NoFit, Choice, nothing, taken, Chosen}
use Rattle.rule.specs.Order.{booking}
use Rattle.rule.specs.Answer.{Reply, booked, refused}
use Rattle.rule.specs.Codes.{booking_code, lacked, chosen_reply}
use Rattle.rule.specs.Rule.{Booking, Rule}
use Rattle.rule.specs.Single.{OneEnd, chosen_one}
use Rattle.state.specs.State.{State, meaning}
use Rattle.state.specs.Act.{act}
use Rattle.state.specs.Sound.{Sound, most_key}
use Rattle.state.specs.Exact.{AllStarts, starts_of, NothingFits, TwoPieces}
use Rattle.state.specs.VoidLaws.{one_end}
use Rattle.state.proofs.RuleLaws.{act_rule}

nothing_chosen : (W : Voids) (h : ℕ) (xs : List Start) → Chosen W h xs nothing ↔ AllStarts (λ b. NoFit W b (free b h)) xs
nothing_chosen W h [] = ((λ x. tt), (λ x. tt))
nothing_chosen W h (x ∷ xs) = let I = nothing_chosen W h xs in ((λ a. (a.0, I.0 a.1)), (λ a. (a.0, I.1 a.1)))

booking_code_small : (g : Settings) (floor r l m : ℕ) → booking_code g floor r l m ≤ 6
booking_code_small g floor r l m = go (eqb l 0) (ltb r floor) (lacked (length g.delays) m) (ltb last_moment (free r (hold g l)))
  where
    go : (a b c d : Bool) → pick a 3 (pick b 4 (pick c 5 (pick d 6 0))) ≤ 6
    go true b c d = omega arith
    go false true c d = omega arith
    go false false true d = omega arith
    go false false false true = omega arith
    go false false false false = omega arith

code_same : (x y : ℕ) → refused x ≡ refused y → x ≡ y
code_same x y q = cc q

apart : (c i r f x : ℕ) → booked c i r f ≡ refused x → ⊥
apart c i r f x q = let z : ◌≡◌ {A = ℕ} 0 1 = cc q in omega arith

-- what a void taken is answered
taken_reply : (g : Settings) (floor n l i r c s e x : ℕ)
    → chosen_reply g floor n l (taken i r c s e) ≡ refused x ↔ ((x ≡ 8) × (pieces floor s e r (free r (hold g l)) ≡ 2) × (g.room ≤ n))
taken_reply g floor n l i r c s e x = elim (case_eq (pieces floor s e r (free r (hold g l))) 2) [
  | inl y ↦ rw y.1 (elim (case_le g.room n) [
    | inl z ↦ rw z.1 ((λ q. (sym (code_same 8 x q), y.0, z.0)), (λ h. rw h.0))
    | inr z ↦ rw z.1 ((λ q. absurd (apart c i r (r + l) x q)), (λ h. absurd (omega arith)))
  ])
  | inr y ↦ rw y.1 ((λ q. absurd (apart c i r (r + l) x q)), (λ h. absurd (y.0 h.1)))
]

module _ (M : Meaning) (d : OneEnd (Has M.voids)) (r l m : ℕ) (y : Reply) (N : Meaning) (R : Rule M (booking r l m) y N) where
  abbrev W : Voids
  W = Has M.voids

  abbrev h : ℕ
  h = hold M.settings l

  abbrev xs : List Start
  xs = starts_of M.settings r l m

  abbrev code : ℕ
  code = booking_code M.settings M.floor r l m

  abbrev answer : Choice → Reply
  answer o = chosen_reply M.settings M.floor (length M.voids) l o

  pub seven_exactly : (y ≡ refused 7) ↔ ((code ≡ 0) × NothingFits W M.settings r l m)
  seven_exactly = go code (booking_code_small M.settings M.floor r l m) R
    where
      is : (o : Choice) → Chosen W h xs o → y ≡ answer o → y ≡ refused 7 → NothingFits W M.settings r l m
      is nothing c q p = (nothing_chosen W h xs).0 c
      is (taken i b k s e) c q p = let z = (taken_reply M.settings M.floor (length M.voids) l i b k s e 7).0 (sym q ∙ p) in absurd (omega (arith, z.0))

      go : (x : ℕ) → x ≤ 6 → Booking M r l m y N x → (y ≡ refused 7) ↔ ((x ≡ 0) × NothingFits W M.settings r l m)
      go zero n z = (
        (λ q. (refl, is z.0 z.1 z.2 q)),
        (λ a. z.2 ∙ ap answer (chosen_one W d h xs z.0 nothing z.1 ((nothing_chosen W h xs).1 a.1))),
      )
      go (suc x) n z = ((λ q. absurd (omega (arith, code_same (suc x) 7 (sym z.0 ∙ q)))), (λ a. absurd (omega (arith, a.0))))

  pub eight_exactly : (y ≡ refused 8) ↔ ((code ≡ 0) × TwoPieces M r l m)
  eight_exactly = go code (booking_code_small M.settings M.floor r l m) R
    where
      is : (o : Choice) → Chosen W h xs o → y ≡ answer o → y ≡ refused 8 → TwoPieces M r l m
      is nothing c q p = absurd (omega (arith, code_same 7 8 (sym q ∙ p)))
      is (taken i b k s e) c q p =
          let z = (taken_reply M.settings M.floor (length M.voids) l i b k s e 8).0 (sym q ∙ p) in
          record { line = i; start = b; channel = k; from = s; to = e; chosen = c; two = z.1; full = z.2 }

      go : (x : ℕ) → x ≤ 6 → Booking M r l m y N x → (y ≡ refused 8) ↔ ((x ≡ 0) × TwoPieces M r l m)
      go zero n z = (
        (λ q. (refl, is z.0 z.1 z.2 q)),
        (λ a. let t = a.1 in z.2 ∙ ap answer (chosen_one W d h xs z.0 (taken t.line t.start t.channel t.from t.to) z.1 t.chosen)
            ∙ (taken_reply M.settings M.floor (length M.voids) l t.line t.start t.channel t.from t.to 8).1 (refl, t.two, t.full)),
      )
      go (suc x) n z = ((λ q. absurd (omega (arith, code_same (suc x) 8 (sym z.0 ∙ q)))), (λ a. absurd (omega (arith, a.0))))

-- and so of a sound link's own reply
module _ (s : State) (S : Sound s) (r l m : ℕ) where
  pub act_seven : ((act s (booking r l m)).reply ≡ refused 7) ↔ ((booking_code s.settings s.floor r l m ≡ 0) × NothingFits (Has (meaning s).voids) s.settings r l m)
  act_seven = seven_exactly (meaning s) (one_end 0 most_key s.tree S.ordered) r l m _ _ (act_rule s S (booking r l m) tt)

  pub act_eight : ((act s (booking r l m)).reply ≡ refused 8) ↔ ((booking_code s.settings s.floor r l m ≡ 0) × TwoPieces (meaning s) r l m)
  act_eight = eight_exactly (meaning s) (one_end 0 most_key s.tree S.ordered) r l m _ _ (act_rule s S (booking r l m) tt)
