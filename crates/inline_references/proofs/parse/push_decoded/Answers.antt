use Rattle.std.proofs.Common.{◌≡◌, ◌++◌, ◌∷◌, string_bytes, sym, ap, ◌∙◌, append_assoc, arith, lit<, rules}
use Rattle.std.proofs.lemmas.Grind.{common_steps}
use Rattle.std.proofs.lemmas.Str.Pattern.{split_once_first}
use Rattle.definition_inline.specs.Decoded.{decode}
use Rattle.inline_references.proofs.parse.push_decoded.Goals as goal
use Rattle.inline_references.proofs.Decoding.{decoded_split, decoded_none, before}

pub loop-before-preserved : goal.loop-before-preserved
loop-before-preserved g c =
    let names = g.T.Tables.reference_of c.args.tables.now in
    let rest = c.loop-before.rest.now in
    let out = string_bytes c.loop-before.out in
    let cut = rw c.in-Some.is at (split_once_first 38 rest c.split_once.result c.split_once.ensures.cases (lit< tt)) in
    record {
      utf8 = search rules;
      printed =
          c.in_ok-rest.ensures.printed
          ∙ ap (λ x. x ++ decode names (38 ∷ c.in-Some.after.now)) c.in_ok-push_str.ensures.bytes
          ∙ append_assoc out c.in-Some.before.now (decode names (38 ∷ c.in-Some.after.now))
          ∙ ap (λ x. out ++ (x ++ decode names (38 ∷ c.in-Some.after.now))) cut.1
          ∙ ap (λ x. out ++ (before rest ++ decode names (38 ∷ x))) cut.2
          ∙ ap (λ x. out ++ x) (sym (decoded_split names rest cut.0))
          ∙ c.loop-before.invariant.printed;
    }

pub returns : goal.returns
returns g c =
    let names = g.T.Tables.reference_of c.args.tables.now in
    let rest = c.loop-before.rest.now in
    let none = rw c.in_default.is at (split_once_first 38 rest c.split_once.result c.split_once.ensures.cases (lit< tt)) in
    let all : string_bytes c.loop-before.out ++ rest ≡ string_bytes c.args.out.now ++ decode names c.args.value.now =
    ap (λ x. string_bytes c.loop-before.out ++ x) (sym (decoded_none names rest none)) ∙ c.loop-before.invariant.printed in
    grind (arith, common_steps)
