-- Laws of bytes put into a room, one run after another.
use mathlib.Core.Path.{◌≡◌, refl}
use mathlib.Core.List.{List, ◌++◌}
use Prim.Native.Nat.{ℕ, ◌+◌}
use native.Mathlib.Omega.{arith}
use lib.ListN.{length, set, length-append, length-set}
use lib.Seq.{sets}
use Rattle.numbers.specs.Bytes.{bytes_of}
use Rattle.numbers.proofs.Numbers.{length-bytes_of}
use Rattle.numbers.proofs.Rooms.{sets-append}
use Rattle.dayfile.specs.declared.Record.{Record}
use Rattle.dayfile.specs.Records.{bit}
use Rattle.dayfile.specs.Written.{field, body_of, written_of}
use Rattle.dayfile.specs.Putting.{Put}
use Rattle.dayfile.proofs.Amounts.{field-named, field-unnamed}

-- one run, and another one where it ended
pub put-more : {l m n : List ℕ} {i j k : ℕ} {f g : List ℕ} → Put l i f j m → Put m j g k n → Put l i (f ++ g) k n
put-more {l} {m} {n} {i} {j} {k} {f} {g} p q = record {
  place = rw length-append (omega (arith, p.place, q.place));
  held = rw (q.held, p.held, p.place) (sets-append f g l i);
}

pub put-bytes : {l m : List ℕ} (k i x : ℕ) → m ≡ sets l i (bytes_of k x) → Put l i (bytes_of k x) (i + k) m
put-bytes k i x e = record { place = rw length-bytes_of refl; held = e }

pub put-none : (l : List ℕ) (i b x : ℕ) → b ≡ 0 → Put l i (field b x) i l
put-none l i b x h = record { place = rw (field-unnamed b x h) (omega arith); held = rw (field-unnamed b x h) refl }

pub put-eight : (l m : List ℕ) (i b x : ℕ) → (b ≡ 0 → ⊥) → m ≡ sets l i (bytes_of 8 x) → Put l i (field b x) (i + 8) m
put-eight l m i b x h e = rw (field-named b x h) (put-bytes 8 i x e)

-- the length of a record's bytes, part by part
pub length-parts : (r : Record) → length (written_of r) ≡ 6 + (length (field (bit 0 r.named) r.kinds.cash)
    + (length (field (bit 1 r.named) r.kinds.deposits) + (length (field (bit 2 r.named) r.kinds.guarantees)
    + (length (field (bit 3 r.named) r.kinds.securities) + (length (field (bit 4 r.named) r.pledged)
    + length (field (bit 5 r.named) r.margin))))))
unfolding written_of body_of
length-parts r = simp (length-append, length-bytes_of) (omega arith)

pub length_two : (l : List ℕ) (a b : ℕ) → length (set (set l 0 a) 1 b) ≡ length l
length_two l a b = simp length-set
