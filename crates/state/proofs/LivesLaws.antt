-- Every order in range keeps a link living.
use Rattle.std.specs.Prelude.{◌≡◌, refl, true, ℕ, zero, suc, ◌+◌, ◌≤◌, ◌<◌}
use Rattle.std.proofs.Common.{sym, ◌∙◌, subst, inl, inr, arith}
use Rattle.rule.specs.Moments.{open_end, last_moment}
use Rattle.rule.specs.Settings.{Settings}
use Rattle.rule.specs.Fit.{hold, free}
use Rattle.rule.specs.Starts.{starts}
use Rattle.rule.specs.Kept.{least, least_most, least_up, kept}
use Rattle.rule.specs.Key.{start_of, channel_of}
use Rattle.rule.specs.Order.{Order, booking, sweep}
use Rattle.rule.specs.Answer.{Reply, booked}
use Rattle.rule.specs.Codes.{booking_code, sweep_code}
use Rattle.shape.specs.Tree.{size}
use Rattle.shape.specs.Visits.{some, published}
use Rattle.shape.specs.SearchLaws.{search_some}
use Rattle.state.specs.Room.{Room}
use Rattle.state.specs.State.{State}
use Rattle.state.specs.Act.{Sought, nowhere, found, seek, split, book_found, book_as, cleared, sweep_as, act}
use Rattle.state.specs.Sound.{most_key}
use Rattle.state.specs.Places.{Placed}
use Rattle.state.specs.SplitLaws.{Split, split_ok, split_within}
use Rattle.state.proofs.BookLaws.{room, book_kept}
use Rattle.state.proofs.SweepLaws.{later, clear_dropped, raised}
use Rattle.state.specs.FoundLaws.{booking_goes, sweep_goes, case_full, Fair, Found, booking_found}
use Rattle.state.specs.Range.{InRange}
use Rattle.state.specs.Lives.{Lives, holds, levels}

module _ (F₀ floor : ℕ) (g : Settings) (H : ℕ → ℕ → ℕ) (s : State) (early : F₀ ≤ last_moment) (L : Lives F₀ floor g H s) where
  least_open : least s.floor ≤ open_end
  least_open = omega (arith, least_most s.floor, L.floor)

  -- ---- a booking: the void found has room to be split, and is split
  module _ (h : ℕ) (long : 1 ≤ h) (b k e : ℕ) (fair : Fair s.floor h b) (q : (published b (free b h) s.tree).out ≡ some k e)
      (less : kept s.floor (start_of k) b ≡ true → kept s.floor (free b h) e ≡ true → size s.tree < s.settings.room) where
    pub found_room : Room s k e b (free b h)
    found_room =
        let a = search_some 0 most_key b (free b h) s.tree L.kept.ordered k e q in
        room F₀ g.channels H s k e b (free b h) L.kept a.0 a.1 (omega arith) fair.1 L.placed L.within least_open early less

    pub found_split : Split s k e b (free b h) (split s k e b (free b h))
    found_split =
        let a = search_some 0 most_key b (free b h) s.tree L.kept.ordered k e q in
        split_ok s k e b (free b h) L.kept.ordered L.kept.balanced a.0 (omega (arith, a.1)) found_room

  module _ (l : ℕ) (long : 1 ≤ hold s.settings l) (r m : ℕ) where
    abbrev After : Reply → State → Type 0
    After y z = Lives F₀ floor g (holds s.settings (booking r l m) y H) z

    split_lives : (i b k e : ℕ) → Fair s.floor (hold s.settings l) b → (published b (free b (hold s.settings l)) s.tree).out ≡ some k e
        → (kept s.floor (start_of k) b ≡ true → kept s.floor (free b (hold s.settings l)) e ≡ true → size s.tree < s.settings.room)
        → After (booked (channel_of k) i b (b + l)) (split s k e b (free b (hold s.settings l)))
    split_lives i b k e fair q less =
        let f = free b (hold s.settings l) in
        let a = search_some 0 most_key b f s.tree L.kept.ordered k e q in
        let S = found_split (hold s.settings l) long b k e fair q less in
        let z = split s k e b f in
        let K = book_kept F₀ g.channels H s k e b f L.kept a.0 a.1 (omega arith) fair.1 z S in
        subst (λ x. After (booked (channel_of k) i b (b + l)) x) (sym S.is) (record {
          kept = K;
          settings = L.settings;
          level = L.level;
          floor = L.floor;
          placed = subst Placed S.is (S.placed L.placed);
          within = split_within s k e b f z S (found_room (hold s.settings l) long b k e fair q less) L.within;
        })

    found_lives : (o : Sought) (n : ℕ) → Found s.tree (hold s.settings l) (Fair s.floor (hold s.settings l)) o
        → let y = book_found s l (record { out = o; count = n }) in After y.reply y.after
    found_lives nowhere n a = L
    found_lives (found i b k e) n a = elim (case_full s.settings s.floor (size s.tree) b (free b (hold s.settings l)) (start_of k) e) [
      | inl y ↦ rw y.1 L
      | inr y ↦ rw y.1 (split_lives i b k e a.0 a.1 y.0)
    ]

  book_lives : (r l m : ℕ) → let y = act s (booking r l m) in Lives F₀ floor g (holds s.settings (booking r l m) y.reply H) y.after
  book_lives r l m = go (booking_code s.settings s.floor r l m) refl
    where
      go : (code : ℕ) → booking_code s.settings s.floor r l m ≡ code
          → let y = book_as code s r l m in Lives F₀ floor g (holds s.settings (booking r l m) y.reply H) y.after
      go zero q =
          let z = booking_goes s.settings s.floor r l m q in
          let h = hold s.settings l in
          let x = seek s.tree h (starts s.settings.delays r h m) in
          found_lives l z.0 r m x.out x.count (booking_found s.settings s.floor s.tree r l m q)
      go (suc x) q = L

  -- ---- a sweep
  sweep_lives : (moment : ℕ) → moment ≤ last_moment → let y = act s (sweep moment) in Lives F₀ (levels (sweep moment) y.reply floor) g H y.after
  sweep_lives moment a = go (sweep_code s.settings s.floor moment) refl
    where
      go : (code : ℕ) → sweep_code s.settings s.floor moment ≡ code
          → let y = sweep_as code s moment in Lives F₀ (levels (sweep moment) y.reply floor) g H y.after
      go zero q =
          let up = least_up s.floor moment (sweep_goes s.settings s.floor moment q) in
          let K = later F₀ (least s.floor) (least moment) (least s.floor) g.channels H s.tree up L.kept in
          let o : least moment ≤ open_end = omega (arith, least_most moment) in
          let D = clear_dropped moment F₀ (least s.floor) g.channels H o early s K in
          let P = D.placed L.placed in
          record {
            kept = raised moment F₀ (least s.floor) g.channels H o early (cleared s (least moment)).tree D.kept D.none;
            settings = D.settings ∙ L.settings;
            level = refl;
            floor = a;
            placed = record { all = P.all; many = P.many };
            within = rw D.settings (omega (arith, D.fewer, L.within));
          }
      go (suc x) q = L

  pub act_lives : (o : Order) → InRange o → let y = act s o in Lives F₀ (levels o y.reply floor) g (holds s.settings o y.reply H) y.after
  act_lives (booking r l m) a = book_lives r l m
  act_lives (sweep moment) a = sweep_lives moment a
