-- What holds where `most` can be asked, as facts.
use Rattle.std.specs.Prelude.{true, ◌≡◌}
use Rattle.rows.specs.declared.Book.{Book}
use Rattle.rows.specs.Rows.{place_of, is_live}
use Rattle.book.specs.Facts.{Sound}
use Rattle.dayfile.specs.declared.Record.{Record}
use Rattle.passing.specs.Most.{has_amount, names_one}

-- none of 1, 4, 5 and 7 applies
pub record Askable (b : Book) (r : Record) : Type 0 where
  pub sound : Sound b
  pub code : has_amount r.code ≡ true
  pub mark : names_one r.code r.named ≡ true
  pub live : is_live b (place_of b r.account) ≡ true
