use Rattle.std.proofs.Common.{sym, ◌∙◌, subst}
use Rattle.block_parser.proofs.Prelude.{HasRead, on_ok_weaker, rest_of, spine_after, Tree}
use Rattle.block_parser.proofs.Plain.{plain_leaf}
use Rattle.block_parser.proofs.parser.Parser.leaf_line.Goals as goal

pub returns-then-is_plain : goal.returns-then-is_plain
returns-then-is_plain g c =
    on_ok_weaker c.more_text.result (λ grows. λ around kids away deep clean h.
    subst (λ (x : Tree). HasRead c.more_text.new.self (spine_after around kids x))
    (sym (plain_leaf c.args.on.now away (rest_of c.args.rest.now) c.args.beside (sym c.is_plain.ensures ∙ c.if-is_plain.true)))
    (grows around kids away deep clean h))
    c.more_text.ensures
