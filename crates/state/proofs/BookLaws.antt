-- A void split keeps what every order keeps: the time booked is held, and borders the pieces.
use Rattle.std.specs.Prelude.{◌≡◌, refl, ◌⊎◌, ◌≢◌, true, ℕ, suc, ◌+◌, ◌-◌, ◌≤◌, ◌<◌}
use Rattle.std.proofs.Common.{sym, inl, inr, arith}
use Rattle.numbers.specs.Case.{pick}
use Rattle.rule.specs.Moments.{open_end, last_moment}
use Rattle.rule.specs.Fit.{Fits}
use Rattle.rule.specs.Kept.{least, kept}
use Rattle.rule.specs.Key.{key_of, start_of, channel_of, start_of_key, channel_of_key}
use Rattle.shape.specs.Tree.{size, In, All}
use Rattle.shape.specs.TreeLaws.{all_map, all_of}
use Rattle.state.specs.Room.{Room}
use Rattle.state.specs.State.{State}
use Rattle.state.specs.Places.{Placed}
use Rattle.state.specs.Cover.{cov, cover}
use Rattle.state.proofs.TickLaws.{on_yes, on_past, cov_no, cov_empty, cov_split}
use Rattle.state.specs.History.{on, Longest}
use Rattle.state.specs.Bordered.{Bordered, Kept}
use Rattle.state.proofs.LongestLaws.{longest_same, bordered, leaf_longest}
use Rattle.state.proofs.OpenEndLaws.{another}
use Rattle.state.specs.KeptLaws.{case_kept, kept_is, kept_not, pick_most}
use Rattle.state.specs.PlaceLaws.{one_spare}
use Rattle.state.specs.SplitLaws.{Split}

-- what is not kept of a piece is past
piece_cov : (floor c t k e s : ℕ) → s ≡ start_of k → least floor ≤ suc t → pick (kept floor s e) (cov c t k e) 0 ≡ cov c t k e
piece_cov floor c t k e s q h = elim (case_kept floor s e) [ inl y ↦ rw y.1 | inr y ↦ rw y.1 (none y.0) ]
  where
    none : (e ≤ s) ⊎ (e < least floor) → 0 ≡ cov c t k e
    none (inl z) = sym (cov_empty c t k e (omega arith))
    none (inr z) = sym (cov_no c t k e (omega arith))

module _ (F₀ C : ℕ) (H : ℕ → ℕ → ℕ) (s : State) (k e r f : ℕ) (K : Kept F₀ (least s.floor) (least s.floor) C H s.tree) (i : In k e s.tree)
    (fits : Fits (start_of k) e r f) (long : r < f) (early : f ≤ last_moment) where
  v : Bordered F₀ (least s.floor) C H k e
  v = bordered F₀ (least s.floor) (least s.floor) C H s.tree K k e i

  -- no other void of the channel starts where the time booked ends: this one holds that tick
  clear : f < e → All (λ j g. j ≢ key_of f (channel_of k)) s.tree
  clear n = all_of _ s.tree (λ j g i' q.
      let L = leaf_longest F₀ (least s.floor) (least s.floor) C H s.tree K in
      let c : channel_of j ≡ channel_of k = omega arith in
      let b : start_of j ≡ f = omega arith in
      let A : Longest F₀ H (channel_of k) f g = rw (← c, ← b) (L j g i') in
      absurd (omega (arith, longest_same F₀ H (channel_of k) f g (start_of k) e f A (L k e i) (omega arith) A.some (omega arith) n)))

  -- a split has what it asks for, unless the room is full and both pieces are kept
  pub room : Placed s → size s.tree ≤ s.settings.room → least s.floor ≤ open_end → F₀ ≤ last_moment
      → (kept s.floor (start_of k) r ≡ true → kept s.floor f e ≡ true → size s.tree < s.settings.room) → Room s k e r f
  room P w g h n = record {
    spare = one_spare s P w;
    less = n;
    another = λ y z. another F₀ (least s.floor) (least s.floor) C H s.tree K g h k e i (omega (arith, whole (kept_not s.floor f e z)));
    key = λ z. omega (arith, (kept_is s.floor f e z).0, v.most);
    clear = λ z. clear (kept_is s.floor f e z).0;
  }
    where
      whole : (e ≤ f) ⊎ (e < least s.floor) → e ≤ f
      whole (inl y) = y
      whole (inr y) = absurd (omega (arith, v.stay))

  module _ (z : State) (S : Split s k e r f z) where
    abbrev d : ℕ
    d = channel_of k

    cover_le : (c t : ℕ) → cover z.tree c t + on c t d r f ≤ cover s.tree c t
    cover_le c t = omega (
      arith,
      S.weigh (cov c t),
      pick_most (kept s.floor (start_of k) r) (cov c t k r),
      pick_most (kept s.floor f e) (cov c t (key_of f d) e),
      cov_split c t k e r f fits.0 (omega arith) fits.1,
    )

    cover_is : (c t : ℕ) → least s.floor ≤ suc t → cover z.tree c t + on c t d r f ≡ cover s.tree c t
    cover_is c t n = omega (
      arith,
      S.weigh (cov c t),
      piece_cov s.floor c t k r (start_of k) refl n,
      piece_cov s.floor c t (key_of f d) e f (sym (start_of_key f d)) n,
      cov_split c t k e r f fits.0 (omega arith) fits.1,
    )

    abbrev H' : ℕ → ℕ → ℕ
    H' c t = on c t d r f + H c t

    up : (X : Type 0) (c t : ℕ) → X ⊎ (1 ≤ H c t) → X ⊎ (1 ≤ H' c t)
    up X c t (inl a) = inl a
    up X c t (inr a) = inr (omega arith)

    wider : (k e : ℕ) → Bordered F₀ (least s.floor) C H k e → Bordered F₀ (least s.floor) C H' k e
    wider k e b = record { some = b.some; since = b.since; most = b.most; stay = b.stay; channel = b.channel; stops = up _ _ _ b.stops; starts = up _ _ _ b.starts }

    in_front : kept s.floor (start_of k) r ≡ true → Bordered F₀ (least s.floor) C H' k r
    in_front y =
        let n = kept_is s.floor (start_of k) r y in
        record {
          some = n.0;
          since = v.since;
          most = omega (arith, v.most);
          stay = n.1;
          channel = v.channel;
          stops = inr (omega (arith, on_yes r d r f (omega arith) long));
          starts = up _ _ _ v.starts;
        }

    behind : kept s.floor f e ≡ true → Bordered F₀ (least s.floor) C H' (key_of f d) e
    behind y =
        let n = kept_is s.floor f e y in
        let a = start_of_key f d in
        let b = channel_of_key f d (omega arith) in
        record {
          some = omega arith;
          since = omega (arith, v.since);
          most = v.most;
          stay = n.1;
          channel = rw b v.channel;
          stops = rw b (up _ _ _ v.stops);
          starts = inr (rw (a, b) (omega (arith, on_yes (f - 1) d r f (omega arith) (omega arith))));
        }

    -- a booking keeps it
    pub book_kept : Kept F₀ (least s.floor) (least s.floor) C H' z.tree
    book_kept = record {
      ordered = S.ord;
      balanced = S.even;
      once = λ c t a. omega (arith, K.once c t a, cover_le c t);
      full = λ c t a b b' b''. omega (arith, K.full c t a b b' b'', cover_is c t b');
      last = λ c a. omega (arith, K.last c a, on_past c last_moment d r f early);
      edges = S.all (λ k e. Bordered F₀ (least s.floor) C H' k e) in_front behind (all_map (λ k e b n. wider k e b) s.tree K.edges);
    }
