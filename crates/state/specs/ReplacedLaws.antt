-- A void split is, in the rule's words, replaced by its pieces.
use Rattle.std.specs.Prelude.{◌≡◌, refl, ◌⊎◌, ◌↔◌, ◌≢◌, Bool, true, ℕ, ◌+◌, ◌≤◌}
use Rattle.std.proofs.Common.{sym, ◌∙◌, ap, inl, inr, arith}
use Rattle.numbers.specs.Case.{pick}
use Rattle.rule.specs.Kept.{kept}
use Rattle.rule.specs.Key.{key_of, start_of, channel_of, key_is, start_of_key, channel_of_key}
use Rattle.rule.specs.Rule.{Piece, Replaced}
use Rattle.shape.specs.Tree.{In, All}
use Rattle.shape.specs.PlaceLaws.{weight_in}
use Rattle.shape.specs.TreeLaws.{all_of, all_in}
use Rattle.shape.specs.Voids.{VoidsIn}
use Rattle.state.specs.State.{State, meaning}
use Rattle.state.specs.Cover.{total}
use Rattle.state.specs.LeafLaws.{mark, mark_self, mark_not, in_mark, mark_in}
use Rattle.state.specs.SplitLaws.{Split}
use Rattle.state.specs.VoidLaws.{has_voids}

if_kept : {b : Bool} (n : ℕ) → b ≡ true → pick b n 0 ≡ n
if_kept n q = rw q

module _ (s : State) (k e r f : ℕ) (z : State) (S : Split s k e r f z) (i : In k e s.tree) where
  abbrev K : ℕ
  K = key_of f (channel_of k)

  -- a leaf of z is a leaf of s with another key, or a piece
  abbrev Old : (k e : ℕ) → Type 0
  Old j g = ((j ≢ k) × In j g s.tree)
      ⊎ (((j ≡ k) × (g ≡ r) × (kept s.floor (start_of k) r ≡ true)) ⊎ ((j ≡ K) × (g ≡ e) × (kept s.floor f e ≡ true)))

  abbrev Now : (c b g : ℕ) → Type 0
  Now c b g = (VoidsIn s.tree c b g × (¬ ((c ≡ channel_of k) × (b ≡ start_of k))))
      ⊎ (Piece s.floor (channel_of k) (start_of k) r c b g ⊎ Piece s.floor (channel_of k) f e c b g)

  came : (c b g : ℕ) (v : VoidsIn z.tree c b g) → Old v.key g → Now c b g
  came c b g v (inl y) = inl (
    record { key = v.key; inside = y.1; channel = v.channel; start = v.start },
    λ n. y.0 (omega (arith, v.channel, v.start, key_is k, key_is v.key)),
  )
  came c b g v (inr (inl y)) = inr (inl (sym v.channel ∙ ap channel_of y.0, sym v.start ∙ ap start_of y.0, y.1, y.2))
  came c b g v (inr (inr y)) = inr (inr (
    sym v.channel ∙ ap channel_of y.0 ∙ channel_of_key f (channel_of k) (omega arith),
    sym v.start ∙ ap start_of y.0 ∙ start_of_key f (channel_of k),
    y.1,
    y.2,
  ))

  -- the pieces kept are there
  pieces_in : (w : (k e : ℕ) → ℕ) → pick (kept s.floor (start_of k) r) (w k r) 0 + pick (kept s.floor f e) (w K e) 0 ≤ total w z.tree
  pieces_in w = omega (arith, S.weigh w, weight_in w (λ q. 0) s.tree k e i)

  went : (c b g : ℕ) → Now c b g → VoidsIn z.tree c b g
  went c b g (inl y) =
      let v = y.0 in
      let n : v.key ≢ k = λ a. y.1 (omega (arith, v.channel, v.start)) in
      record {
        key = v.key;
        inside = mark_in z.tree v.key g (omega (
          arith,
          S.weigh (mark v.key g),
          in_mark s.tree v.key g v.inside,
          mark_not v.key g k e n,
        ));
        channel = v.channel;
        start = v.start;
      }
  went c b g (inr (inl y)) = record {
    key = k;
    inside = rw y.2 (mark_in z.tree k r (omega (arith, pieces_in (mark k r), if_kept (mark k r k r) y.3, mark_self k r)));
    channel = sym y.0;
    start = sym y.1;
  }
  went c b g (inr (inr y)) = record {
    key = K;
    inside = rw y.2 (mark_in z.tree K e (omega (arith, pieces_in (mark K e), if_kept (mark K e K e) y.3, mark_self K e)));
    channel = channel_of_key f (channel_of k) (omega arith) ∙ sym y.0;
    start = start_of_key f (channel_of k) ∙ sym y.1;
  }

  olds : All Old z.tree
  olds = S.all Old (λ n. inr (inl (refl, refl, n))) (λ n. inr (inr (refl, refl, n))) (all_of _ s.tree (λ j g i n. inl (n, i)))

  now : (c b g : ℕ) → VoidsIn z.tree c b g ↔ Now c b g
  now c b g = ((λ v. came c b g v (all_in Old z.tree olds v.key g v.inside)), went c b g)

  over : {A A' N P : Type 0} → (A → A') → (A × N) ⊎ P → (A' × N) ⊎ P
  over h (inl x) = inl (h x.0, x.1)
  over h (inr y) = inr y

  -- the void taken is replaced by its pieces
  pub replaced : Replaced (meaning s) (channel_of k) (start_of k) e r f (meaning z)
  replaced = record {
    settings = ap (λ (x : State). x.settings) S.is;
    floor = ap (λ (x : State). x.floor) S.is;
    voids = λ c b g. (
      (λ x. over (has_voids c b g s.tree).1 ((now c b g).0 ((has_voids c b g z.tree).0 x))),
      (λ x. (has_voids c b g z.tree).1 ((now c b g).1 (over (has_voids c b g s.tree).0 x))),
    );
  }
