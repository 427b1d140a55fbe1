use Rattle.std.proofs.Common.{sym, ap, ◌∙◌, lit<, rules, tests}
use Rattle.std.specs.Prelude.{is_some}
use Rattle.std.specs.Option.{option_and_then, option_map}
use Rattle.std.proofs.lemmas.Iterator.Search.{find_from_yields_List}
use Rattle.std.proofs.lemmas.Iterator.Splits.{YieldsList-from_str_split}
use Rattle.inline_references.specs.Groups.{text_in_row}
use Rattle.inline_references.proofs.builtin.find_text.Goals as goal

pub returns-in_err-row : goal.returns-in_err-row
returns-in_err-row c =
    let name = c.args.name.now in
    let pieces = YieldsList-from_str_split 32 c.args.rows.now (lit< tt) c.split.ensures.text c.split.ensures.has_more c.split.ensures.pattern in
    let found = find_from_yields_List (λ row. is_some (text_in_row row name)) _ _ c.find.result c.find.ensures.ran pieces (λ x b q k. search (rules, tests)) in
    let same = ap (option_and_then (λ row. text_in_row row name)) (ap (option_map (λ x. x.now)) (sym c.in_err-row.was) ∙ found) in
    ap (option_map (λ x. x.now)) c.from_residual.ensures ∙ same

pub returns : goal.returns
returns c =
    let name = c.args.name.now in
    let pieces = YieldsList-from_str_split 32 c.args.rows.now (lit< tt) c.split.ensures.text c.split.ensures.has_more c.split.ensures.pattern in
    let found = find_from_yields_List (λ row. is_some (text_in_row row name)) _ _ c.find.result c.find.ensures.ran pieces (λ x b q k. search (rules, tests)) in
    c.text_in_row.ensures ∙ ap (option_and_then (λ row. text_in_row row name)) (ap (option_map (λ x. x.now)) (sym c.in_ok-row.was) ∙ found)
