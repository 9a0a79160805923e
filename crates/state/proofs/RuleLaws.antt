-- What an order does to a sound link is what the rule says, and the rule allows nothing else.
use Rattle.std.specs.Prelude.{◌≡◌, refl, ℕ, zero, suc, ◌≤◌}
use Rattle.std.proofs.Common.{sym, ap, inl, inr, arith}
use Rattle.rule.specs.Moments.{last_moment}
use Rattle.rule.specs.Fit.{hold, free}
use Rattle.rule.specs.Starts.{starts}
use Rattle.rule.specs.Kept.{least, least_up}
use Rattle.rule.specs.Key.{start_of}
use Rattle.rule.specs.Voids.{Has, Meaning, Same}
use Rattle.rule.specs.Order.{Order, booking, sweep}
use Rattle.rule.specs.Answer.{Reply, swept}
use Rattle.rule.specs.Codes.{booking_code, sweep_code, chosen_reply}
use Rattle.rule.specs.Rule.{Effect, Booking, Sweep, Rule}
use Rattle.rule.specs.Single.{rule_one}
use Rattle.shape.specs.Tree.{size}
use Rattle.shape.specs.Voids.{VoidsIn}
use Rattle.shape.specs.SearchLaws.{search_some}
use Rattle.state.specs.State.{State, meaning, voids_of}
use Rattle.state.specs.Act.{Sought, nowhere, found, seek, choice, book_found, book_as, sweep_as, act}
use Rattle.state.specs.Sound.{Sound, most_key}
use Rattle.state.specs.KeptLaws.{stays_least}
use Rattle.state.proofs.LongestLaws.{kept_longest}
use Rattle.state.specs.FoundLaws.{booking_goes, sweep_goes, case_full, Fair, Found, booking_found}
use Rattle.state.specs.Range.{InRange}
use Rattle.state.specs.Lives.{Lives, levels}
use Rattle.state.proofs.LivesLaws.{found_split, act_lives}
use Rattle.state.proofs.WholeLaws.{shut, sound_lives}
use Rattle.state.specs.VoidLaws.{has_voids, length_voids, dropped_voids, one_end, chosen_as}
use Rattle.state.specs.ChosenLaws.{seek_chosen}
use Rattle.state.specs.ReplacedLaws.{replaced}

same : (M : Meaning) → Same M M
same M = record { settings = refl; floor = refl; voids = λ c s e. ((λ x. x), (λ x. x)) }

module _ (s : State) (W : Sound s) where
  -- ---- a booking
  module _ (l : ℕ) (long : 1 ≤ hold s.settings l) where
    abbrev h : ℕ
    h = hold s.settings l

    effect : (o : Sought) (n : ℕ) → Found s.tree h (Fair s.floor h) o
        → let y = book_found s l (record { out = o; count = n }) in Effect (meaning s) l y.reply (choice o) (meaning y.after)
    effect nowhere n a = same (meaning s)
    effect (found i b k e) n a = elim (case_full s.settings s.floor (size s.tree) b (free b (hold s.settings l)) (start_of k) e) [
      | inl y ↦ rw y.1 (same (meaning s))
      | inr y ↦
          let S = found_split 0 s.floor s.settings (shut s.tree) s (omega arith) (sound_lives s W) h long b k e a.0 a.1 y.0 in
          rw y.1 (replaced s k e b (free b h) _ S (search_some 0 most_key b (free b h) s.tree W.ordered k e a.1).0)
    ]

  book_rule : (r l m : ℕ) → let y = act s (booking r l m) in Rule (meaning s) (booking r l m) y.reply (meaning y.after)
  book_rule r l m = go (booking_code s.settings s.floor r l m) refl
    where
      go : (code : ℕ) → booking_code s.settings s.floor r l m ≡ code → let y = book_as code s r l m in Booking (meaning s) r l m y.reply (meaning y.after) code
      go zero q =
          let z = booking_goes s.settings s.floor r l m q in
          let h = hold s.settings l in
          let xs = starts s.settings.delays r h m in
          let x = seek s.tree h xs in
          let listed = chosen_as (VoidsIn s.tree) (Has (voids_of s.tree)) (λ c b e. ((has_voids c b e s.tree).1, (has_voids c b e s.tree).0)) in (
            choice x.out,
            listed h xs (choice x.out) (seek_chosen 0 most_key s.tree W.ordered h xs),
            ap (λ n. chosen_reply s.settings s.floor n l (choice x.out)) (sym (length_voids s.tree)),
            effect l z.0 x.out x.count (booking_found s.settings s.floor s.tree r l m q),
          )
      go (suc x) q = (refl, same (meaning s))

  -- ---- a sweep
  sweep_rule : (moment : ℕ) → moment ≤ last_moment → let y = act s (sweep moment) in Rule (meaning s) (sweep moment) y.reply (meaning y.after)
  sweep_rule moment a = go (sweep_code s.settings s.floor moment) refl (act_lives 0 s.floor s.settings (shut s.tree) s (omega arith) (sound_lives s W) (sweep moment) a)
    where
      go : (code : ℕ) → sweep_code s.settings s.floor moment ≡ code
          → (let y = sweep_as code s moment in Lives 0 (levels (sweep moment) y.reply s.floor) s.settings (shut s.tree) y.after)
          → let y = sweep_as code s moment in Sweep (meaning s) moment y.reply (meaning y.after) code
      go (suc x) q L = (refl, same (meaning s))
      go zero q L =
          let u = (sweep_as 0 s moment).after.tree in
          let t = s.tree in
          let up = least_up s.floor moment (sweep_goes s.settings s.floor moment q) in
          let A = kept_longest 0 (least s.floor) s.settings.channels (shut t) t (sound_lives s W).kept in
          let B = kept_longest 0 (least moment) s.settings.channels (shut t) u L.kept in (
            ap swept (sym (dropped_voids moment t)),
            record {
              settings = L.settings;
              floor = refl;
              voids = λ c b e. (
                (λ x. let y = (B c b e).0 ((has_voids c b e u).0 x) in ((has_voids c b e t).1 ((A c b e).1 (y.0, y.1, omega (arith, up, y.2))), (stays_least moment e).1 y.2)),
                (λ x. let y = (A c b e).0 ((has_voids c b e t).0 x.0) in (has_voids c b e u).1 ((B c b e).1 (y.0, y.1, (stays_least moment e).0 x.1))),
              );
            },
          )

  pub act_rule : (o : Order) → InRange o → Rule (meaning s) o (act s o).reply (meaning (act s o).after)
  act_rule (booking r l m) a = book_rule r l m
  act_rule (sweep moment) a = sweep_rule moment a

  -- no other reply is allowed, nor other voids
  pub act_only : (o : Order) → InRange o → (y : Reply) (N : Meaning) → Rule (meaning s) o y N → ((act s o).reply ≡ y) × Same (meaning (act s o).after) N
  act_only o a y N R = rule_one (meaning s) (one_end 0 most_key s.tree W.ordered) (meaning (act s o).after) N o (act s o).reply y (act_rule o a) R
