-- `archives::found::is_at` meets its contract.
use Rattle.std.proofs.Common.{Bool, ◌&&◌, drop, sym, ap, ◌∙◌}
use Rattle.archives.specs.Files.{starts_with}
use Rattle.archives.proofs.found.is_at.Goals as goal

pub returns-then-begins : goal.returns-then-begins
returns-then-begins c =
    let a = c.args in
    c.starts_at.ensures ∙ ap (λ (t : Bool). t && starts_with (drop a.at a.bytes.now) a.line.now) (sym c.if-begins.true)
