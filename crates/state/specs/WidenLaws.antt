-- One channel more: a sound link with room for its void stays sound (`widen`, by which an opening makes the channels).
use Rattle.std.specs.Prelude.{◌≡◌, refl, ◌⊎◌, ◌≢◌, true, ℕ, ◌+◌, ◌<◌}
use Rattle.std.proofs.Common.{ap, inl, inr, arith}
use Rattle.numbers.specs.Case.{case_lt}
use Rattle.rule.specs.Moments.{open_end}
use Rattle.rule.specs.Settings.{in_bounds, most_channels}
use Rattle.rule.specs.SettingsLaws.{in_bounds_lem}
use Rattle.rule.specs.Kept.{least_most}
use Rattle.rule.specs.Key.{key_of, start_of, channel_of, start_of_key, channel_of_key}
use Rattle.shape.specs.Tree.{size, In, All}
use Rattle.shape.specs.TreeLaws.{all_map, all_in, all_of}
use Rattle.shape.specs.HeightLaws.{height_allowed}
use Rattle.shape.specs.InsertLaws.{Inserted, insert_ok, inserted_size}
use Rattle.state.specs.State.{State, first, add}
use Rattle.state.specs.Open.{with_channels, widen}
use Rattle.state.specs.Sound.{Lawful, Apart, OpenEnd, Sound, most_key}
use Rattle.state.specs.Places.{Placed}
use Rattle.state.specs.PlaceLaws.{one_spare, placed_add}
use Rattle.state.specs.KeptLaws.{stays_least}
use Rattle.state.specs.LeafLaws.{inserted_in, inserted_new}

module _ (s : State) (W : Sound s) (q : in_bounds (with_channels s.settings (s.settings.channels + 1)) ≡ true) (n : size s.tree < s.settings.room) where
  abbrev c : ℕ
  c = s.settings.channels

  abbrev K : ℕ
  K = key_of s.floor c

  abbrev wider : State
  wider = record { settings = with_channels s.settings (c + 1); floor = s.floor; tree = s.tree; spares = s.spares }

  abbrev x : ℕ
  x = first s.spares

  few : c < most_channels
  few = omega (arith, (in_bounds_lem (with_channels s.settings (c + 1)) q).channels.1)

  of_new : channel_of K ≡ c
  of_new = channel_of_key s.floor c (omega (arith, few))

  clear : All (λ j e. j ≢ K) s.tree
  clear = all_map (λ j e v y. omega (arith, v.channel, ap channel_of y, of_new)) s.tree W.lawful

  pub widen_inserted : Inserted 0 most_key x K open_end s.tree (widen s).tree
  unfolding widen add
  widen_inserted = insert_ok 0 most_key x K open_end s.tree W.ordered W.balanced (omega arith) (omega (arith, W.floor)) clear

  abbrev Leaf : (k e : ℕ) → Type 0
  Leaf k e = In k e s.tree ⊎ ((k ≡ K) × (e ≡ open_end))

  leaves_are : All Leaf (widen s).tree
  leaves_are = widen_inserted.all Leaf (inr (refl, refl)) (all_of Leaf s.tree (λ k e i. inl i))

  of_old : (k e : ℕ) → In k e s.tree → channel_of k < c
  of_old k e i = (all_in _ s.tree W.lawful k e i).channel

  apart : Apart (widen s).tree
  apart k e k' e' i j a b = go (all_in Leaf (widen s).tree leaves_are k e i) (all_in Leaf (widen s).tree leaves_are k' e' j)
    where
      go : Leaf k e → Leaf k' e' → e < start_of k'
      go (inl u) (inl v) = W.apart k e k' e' u v a b
      go (inl u) (inr v) = absurd (omega (arith, of_old k e u, ap channel_of v.0, of_new))
      go (inr u) (inl v) = absurd (omega (arith, of_old k' e' v, ap channel_of u.0, of_new))
      go (inr u) (inr v) = absurd (omega (arith, u.0, v.0))

  open_ends_lem : (d : ℕ) → d < c + 1 → OpenEnd (widen s).tree d
  open_ends_lem d a =
      let u = (widen s).tree in
      elim (case_lt d c) [
        | inl y ↦ let o = W.open_ends d y.0 in
            record { key = o.key; inside = inserted_in 0 most_key x K open_end s.tree u widen_inserted o.key open_end o.inside; channel = o.channel }
        | inr y ↦ record { key = K; inside = inserted_new 0 most_key x K open_end s.tree u widen_inserted; channel = omega (arith, of_new) }
      ]

  placed : Placed (widen s)
  unfolding widen
  placed = let P : Placed wider = record { all = W.all; many = W.many } in
      placed_add wider 0 most_key W.ordered W.balanced P K open_end (omega arith) (omega (arith, W.floor)) clear (one_spare wider P W.within)

  pub widen_size : size (widen s).tree ≡ size s.tree + 1
  widen_size = inserted_size 0 most_key x K open_end s.tree (widen s).tree widen_inserted

  pub widen_sound : Sound (widen s)
  unfolding widen add
  widen_sound = record {
    bounds = q;
    floor = W.floor;
    ordered = widen_inserted.ord;
    high = height_allowed (widen s).tree widen_inserted.even;
    balanced = widen_inserted.even;
    lawful = widen_inserted.all (λ k e. Lawful (c + 1) s.floor k e)
        (record {
          channel = omega (arith, of_new);
          some = omega (arith, start_of_key s.floor c, W.floor);
          most = omega arith;
          stay = (stays_least s.floor open_end).1 (omega (arith, least_most s.floor, W.floor));
        })
        (all_map (λ k e v. record { channel = omega (arith, v.channel); some = v.some; most = v.most; stay = v.stay }) s.tree W.lawful);
    apart = apart;
    open_ends = open_ends_lem;
    all = placed.all;
    many = placed.many;
    within = omega (arith, widen_size);
  }
