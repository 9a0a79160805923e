-- What a caller of an opening may lean on: the bytes used lie within the record's buffer.
use mathlib.Core.Path.{◌≡◌}
use mathlib.Core.List.{List}
use Prim.Native.Nat.{ℕ, zero, suc, ◌≤◌, zero-le}
use native.Mathlib.Omega.{arith}
use lib.ListN.{length}
use Rattle.rule.specs.Settings.{Settings}
use Rattle.order.specs.Records.{Reading, unread, opening, order, reading, used_by}
use Rattle.order.specs.Kinds.{Kind, kind}
use Rattle.order.proofs.Alone.{inside}
use Rattle.opening.specs.Opening.{opening_code}
use Rattle.calls.specs.declared.open.Opened.{Opened}
use Rattle.calls.specs.Opens.{settings_of, OpensAs, OpensRead, Opens}

-- the bytes that an opening used lie within what it was given, and one that is accepted used its mark and more
abbrev pub UsedWithin : (o : Opened) (bytes : List ℕ) → Type 0
UsedWithin o bytes = (o.used ≤ length bytes) × (o.code ≡ 0 → 8 ≤ o.used)

refused_within : (x : ℕ) (o : Opened) (bytes : List ℕ) → 1 ≤ x → o ≡ record { code = x; used = 0 } → UsedWithin o bytes
refused_within x o bytes h e = rw e (zero-le, λ z. absurd (omega (arith, h, z)))

opens_as_within : (code used : ℕ) (bytes : List ℕ) (o : Opened) (g : Settings) (floor : ℕ) (m m' : List ℕ) → used ≤ length bytes → 8 ≤ used → OpensAs code used g floor o m m' → UsedWithin o bytes
opens_as_within zero used bytes o g floor m m' h k e = rw e.0 (h, λ _. k)
opens_as_within (suc x) used bytes o g floor m m' h k e = refused_within (suc x) o bytes (omega arith) e.0

opens_within : (room : ℕ) (x : Reading) (bytes : List ℕ) (o : Opened) (m m' : List ℕ) → used_by x ≤ length bytes → Kind x → OpensRead room x o m m' → UsedWithin o bytes
opens_within room (unread x) bytes o m m' h k e = refused_within x o bytes (omega (arith, k)) e.0
opens_within room (order n p) bytes o m m' h k e = refused_within 11 o bytes (omega arith) e.0
opens_within room (opening n p) bytes o m m' h k e = opens_as_within (opening_code (settings_of room p) (length m)) n bytes o (settings_of room p) p.floor m m' h k e

pub open_within : (room : ℕ) (bytes : List ℕ) (o : Opened) (m m' : List ℕ) → Opens room bytes o m m' → UsedWithin o bytes
open_within room bytes o m m' e = opens_within room (reading bytes) bytes o m m' (inside bytes) (kind bytes) e
