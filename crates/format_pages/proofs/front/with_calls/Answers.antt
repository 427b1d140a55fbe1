use Rattle.std.proofs.Common.{◌≡◌, ◌++◌, ap, ap₂, ◌∙◌, append_assoc, take, drop}
use Rattle.std.proofs.lemmas.List.{take_rest}
use Rattle.format_pages.specs.Front.{body, front}
use Rattle.format_pages.proofs.Fronts.{from_start}
use Rattle.format_pages.proofs.front.with_calls.Goals as goal

pub returns : goal.returns
returns c =
    let text = c.args.text.now in
    let calls = c.args.calls.now in
    let split = c.in-Some-Some in
    let size = c.front_size-size.ensures in
    let front_is : split.front.now ≡ front text = split.ensures.cases.0 ∙ from_start c.front_size-size.result text ∙ ap (λ n. take n text) size in
    let body_is : split.body.now ≡ body text = split.ensures'.cases.0 ∙ take_rest text c.front_size-size.result ∙ ap (λ n. drop n text) size in
    let one = c.in_ok-push_str.ensures.bytes ∙ ap (λ xs. xs ++ split.front.now) c.new-called.ensures.bytes in
    let two = c.in_ok-push_str-2.ensures.bytes ∙ ap (λ xs. xs ++ calls) one in
    c.in_ok-push_str-3.ensures.bytes ∙ ap (λ xs. xs ++ split.body.now) two
    ∙ append_assoc split.front.now calls split.body.now
    ∙ ap₂ (λ xs ys. xs ++ (calls ++ ys)) front_is body_is
