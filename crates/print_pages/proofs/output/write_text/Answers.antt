-- The pages are those of the input's image.
use Rattle.std.proofs.Common.{rules, sym, subst}
use Rattle.spec.specs.Bytes.{Bytes}
use Rattle.print_pages.specs.Printing.{Progress}
use Rattle.print_pages.proofs.output.write_text.Goals as goal

pub write_pages-requires : goal.write_pages-requires
write_pages-requires g c =
    let p = c.open-opening.ensures.opened.listing c.in-Some.from c.in-Some.is in
    (subst (λ (b : Bytes). Progress b c.in-Some.from c.open-opening.result.len) (sym p.image_is) p, search rules)

pub returns-in-Some : goal.returns-in-Some
returns-in-Some g c =
    let p = c.open-opening.ensures.opened.listing c.in-Some.from c.in-Some.is in
    rw p.image_is at c.write_pages.ensures
