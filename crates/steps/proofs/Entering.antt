-- Entering the arrays of a sound book: what that asks of them holds, and with what then stands beside them a step can be made.
use Rattle.std.proofs.Common.{List, ℕ, true, ◌≡◌, sym, refl, ap, ◌∙◌, subst, arith}
use Rattle.sums.specs.Choice.{pick}
use Rattle.rows.specs.View.{View}
use Rattle.rows.specs.Rows.{view}
use Rattle.rows.specs.Facts.{NoneBeyond}
use Rattle.rows.specs.DeemedUnder.{DeemedUnder}
use Rattle.rows.specs.Modes.{looked}
use Rattle.rows.specs.Inner.{in_tenths}
use Rattle.table.specs.declared.Table.{Table}
use Rattle.table.specs.Words.{turned_back}
use Rattle.table.specs.Facts.{Sized, seen_book}
use Rattle.table.proofs.Seen.{seen-view, seen-ranged}
use Rattle.book.specs.Facts.{Sound}
use Rattle.book.proofs.RowTests.{sound-ranged}
use Rattle.book.proofs.Settled.{sound-rows, none-beyond}
use Rattle.steps.specs.declared.At.{At}
use Rattle.steps.specs.declared.Lent.{Lent}
use Rattle.steps.specs.Steps.{Going, book_in}
use Rattle.steps.specs.Beside.{Enterable, Enters}
use Rattle.steps.proofs.Placing.{sound-placed}

module _ (t : Table) (h : Sound (turned_back t)) where
  abbrev seen : View
  seen = view (seen_book t.count t.marks t.amounts)

  is_seen : seen ≡ view (turned_back t)
  is_seen = seen-view t.count t.serial t.marks t.amounts t.modes t.needs t.next t.numbers

  pub enterable : Sized t.marks t.amounts → Enterable t.count t.marks t.amounts
  enterable z = record {
    ranged = seen-ranged t.count t.serial t.marks t.amounts t.modes t.needs t.next t.numbers (sound-ranged _ h);
    shaped = rw is_seen h.shaped;
    beyond = subst NoneBeyond (sym is_seen) (none-beyond (turned_back t) (sound-rows _ h));
    ranging = λ i l.
        let k = (sound-placed t.count t.serial t.marks t.amounts t.modes t.needs t.next t.numbers z (sound-rows _ h)).ranges i l in
        record {
          inside = l;
          cash = omega (arith, k.received, k.allocated);
          deposits = omega (arith, k.received, k.allocated);
          guarantees = omega (arith, k.received, k.allocated);
          securities = omega (arith, k.received, k.allocated);
          pledged = k.pledged;
        };
  }

  -- the arrays entered are the table's book, and a step can be made
  pub sound-enters : Sized t.marks t.amounts → {kept excess : List ℕ} {l : Lent} {at : At} → at ≡ record { count = t.count; serial = t.serial; next = t.next; waiting = true }
      → Enters t.count (record { marks = t.marks; words = t.amounts; kept = kept; modes = t.modes; needs = t.needs; numbers = t.numbers; excess = excess }) l
      → Going at t.modes l × (book_in at t.modes l ≡ turned_back t)
  unfolding pick
  sound-enters z {l = l} ea e =
      rw (ea, e.rest) (
        record {
          size = z;
          many = e.many;
          wide = e.wide;
          keeps = e.keeps;
          sound = h;
          in-excess = subst (λ v. DeemedUnder (in_tenths v) l.excess) is_seen e.in-excess;
          looks = e.looks ∙ ap (λ v. looked v t.modes) is_seen;
        },
        refl,
      )
