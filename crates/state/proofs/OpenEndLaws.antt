-- "each channel always keeps a void that does" end at the open end (01): so no other void is ever the last one.
use Rattle.std.specs.Prelude.{◌≡◌, ◌≢◌, ℕ, ◌≤◌, ◌<◌}
use Rattle.std.proofs.Common.{sym, subst, arith}
use Rattle.rule.specs.Moments.{open_end, last_moment}
use Rattle.rule.specs.Key.{channel_of}
use Rattle.shape.specs.Tree.{Tree, size, In}
use Rattle.shape.specs.TreeLaws.{same_key}
use Rattle.state.specs.Sound.{OpenEnd, most_key}
use Rattle.state.proofs.TickLaws.{cover_some}
use Rattle.state.specs.Bordered.{Kept}
use Rattle.state.specs.LeafLaws.{two_leaves}
use Rattle.state.proofs.LongestLaws.{bordered}

module _ (F₀ F G C : ℕ) (H : ℕ → ℕ → ℕ) (t : Tree) (K : Kept F₀ F G C H t) (f : F ≤ open_end) (z : F₀ ≤ last_moment) where
  pub open_end_lem : (c : ℕ) → c < C → OpenEnd t c
  open_end_lem c a =
      let x = cover_some t c last_moment (omega (arith, K.full c last_moment a z (omega arith) (omega arith), K.last c a)) in
      let q : x.end ≡ open_end = omega (arith, x.before, (bordered F₀ F G C H t K x.key x.end x.inside).most) in
      record { key = x.key; inside = subst (λ e. In x.key e t) q x.inside; channel = x.channel }

  -- a void that ends before the open end is not the last one
  pub another : (k e : ℕ) → In k e t → e ≤ last_moment → 2 ≤ size t
  another k e i h =
      let x = open_end_lem (channel_of k) (bordered F₀ F G C H t K k e i).channel in
      let n : k ≢ x.key = λ q. omega (arith, same_key 0 most_key t K.ordered k e open_end i (subst (λ j. In j open_end t) (sym q) x.inside)) in
      two_leaves t k e x.key open_end i x.inside n
