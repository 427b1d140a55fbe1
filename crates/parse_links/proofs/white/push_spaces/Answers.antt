use Rattle.std.proofs.Common.{arith, refl, subst, sym}
use Rattle.parse_links.proofs.Prelude.{WritesWhite}
use Rattle.parse_links.proofs.Spaces.{spaces_in}
use Rattle.parse_links.proofs.white.push_spaces.Goals as goal

pub returns-clause-written : goal.returns-clause-written
returns-clause-written g c = λ text stop st.
    let xs = c.args.bytes.now in
    let size = c.white_size-size.result in
    subst (λ ys. WritesWhite text xs ys stop c.args.walk.now c.text.new.self) (sym c.bytes_from.ensures.rest)
    (spaces_in text stop _ _ xs size (λ k. omega (arith, c.type_inv.bytes k)) c.white_size-size.ensures.size st c.in_ok-text.ensures.stays
    (λ front line is. c.in_ok-text.ensures.written text front line is refl))
