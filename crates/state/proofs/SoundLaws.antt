-- Every order leaves a sound link sound; and a void found in one has room to be split, unless it is refused.
use Rattle.std.specs.Prelude.{◌≡◌, false, ℕ}
use Rattle.std.proofs.Common.{subst, sym, ◌∙◌, inl, inr, arith}
use Rattle.std.proofs.lemmas.Bool.{false≢true}
use Rattle.rule.specs.Fit.{hold, free, Fits}
use Rattle.rule.specs.Starts.{starts}
use Rattle.rule.specs.Key.{start_of}
use Rattle.rule.specs.Order.{Order}
use Rattle.rule.specs.Codes.{booking_code, too_many}
use Rattle.shape.specs.Tree.{size, In}
use Rattle.shape.specs.SearchLaws.{search_some}
use Rattle.state.specs.Room.{Room}
use Rattle.state.specs.State.{State}
use Rattle.state.specs.Act.{found, seek, act}
use Rattle.state.specs.Sound.{Sound, most_key}
use Rattle.state.specs.FoundLaws.{booking_goes, case_full, Fair, Found, booking_found}
use Rattle.state.specs.Range.{InRange}
use Rattle.state.specs.Lives.{holds, levels}
use Rattle.state.proofs.LivesLaws.{act_lives, found_room}
use Rattle.state.proofs.WholeLaws.{shut, sound_lives, lives_sound}

module _ (s : State) (W : Sound s) where
  pub act_sound : (o : Order) → InRange o → Sound (act s o).after
  act_sound o h =
      let y = act s o in
      lives_sound 0 (levels o y.reply s.floor) s.settings (holds s.settings o y.reply (shut s.tree)) y.after
      (act_lives 0 s.floor s.settings (shut s.tree) s (omega arith) (sound_lives s W) o h) W.bounds (omega arith)

  -- the void found is a leaf that fits, and unless code 8 is given a split of it never lacks a spare place, has room for
  -- two pieces where both are kept, and never drops the last void
  pub split_room : (r l m i b k e : ℕ) → booking_code s.settings s.floor r l m ≡ 0
      → let h = hold s.settings l in
      (seek s.tree h (starts s.settings.delays r h m)).out ≡ found i b k e
      → too_many s.settings s.floor (size s.tree) b (free b h) (start_of k) e ≡ false
      → In k e s.tree × Fits (start_of k) e b (free b h) × Room s k e b (free b h)
  split_room r l m i b k e q out few =
      let h = hold s.settings l in
      let z = booking_goes s.settings s.floor r l m q in
      let F : Found s.tree h (Fair s.floor h) (found i b k e) = subst (Found s.tree h (Fair s.floor h)) out (booking_found s.settings s.floor s.tree r l m q) in
      let a = search_some 0 most_key b (free b h) s.tree W.ordered k e F.1 in (
        a.0,
        a.1,
        found_room 0 s.floor s.settings (shut s.tree) s (omega arith) (sound_lives s W) h z.0 b k e F.0 F.1 (
            elim (case_full s.settings s.floor (size s.tree) b (free b (hold s.settings l)) (start_of k) e) [
              | inl y ↦ absurd (false≢true (sym few ∙ y.1))
              | inr y ↦ y.0
            ]
            ),
      )
