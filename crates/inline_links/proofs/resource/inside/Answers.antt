use Rattle.std.proofs.Common.{◌≡◌, ◌+◌, ◌-◌, ℕ, List, ap, ◌∙◌, drop, length, arith}
use Rattle.inline_links.proofs.Prelude.{drop-drop, IsShorterRest}
use Rattle.std.proofs.lemmas.Option.{IfSome_then}
use Rattle.inline_links.specs.Codes.{IsRest}
use Rattle.inline_links.proofs.resource.inside.Goals as goal

rest_after : (content middle rest : List ℕ) → IsShorterRest content middle → IsRest middle rest → IsRest content rest
rest_after content middle rest h k =
    let front = length content - length middle in
    let next = length middle - length rest in
    let both : front + next ≡ length content - length rest = omega (arith, h.shorter, k.within) in
    record {
      within = omega (arith, h.shorter, k.within);
      place = k.place ∙ ap (drop next) h.place ∙ drop-drop next front content ∙ ap (λ n. drop n content) both;
    }

pub returns-clause-place : goal.returns-clause-place
returns-clause-place c =
    IfSome_then c.after_destination.result c.after_destination.ensures.place
    (λ read k. rest_after c.args.content.now _ read.rest.now c.in_ok-destination.ensures.place k)
