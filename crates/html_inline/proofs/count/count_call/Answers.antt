use Rattle.std.proofs.Common.{◌≡◌, ℕ, List, Option, sym, ap, ◌∙◌, subst}
use Rattle.html_inline.proofs.Prelude.{content_codes, count_at, CountOf, first_match, fold, in_bytes, lay, map, normal_label, output_view, place_of}
use Rattle.std.specs.Result.{OnOk}
use Rattle.html_inline.proofs.count.count_call.Goals as goal

pub returns-in-None : goal.returns-in-None
returns-in-None g c = λ options default labels held.
    let label = content_codes c.args.label.now in
    let normalized : c.as_str-label.result.now ≡ normal_label label =
    c.as_str-label.ensures.value ∙ c.in_ok-normalize_label.ensures ∙ ap (λ (s : List ℕ). normal_label (content_codes s)) c.as_bytes.ensures.value in
    let found : first_match label labels ≡ c.find_normal.result =
    ap (λ (n : List ℕ). place_of n (map normal_label labels)) (sym normalized) ∙ sym (c.find_normal.ensures labels held) in
    sym (ap (λ (place : Option ℕ). fold (lay options default) (output_view c.args.out.now) (in_bytes (count_at place (normal_label label)))) (found ∙ c.in-None.is))

pub returns-in-Some : goal.returns-in-Some
returns-in-Some g c = λ options default labels held.
    let label = content_codes c.args.label.now in
    let out = output_view c.args.out.now in
    let normalized : c.as_str-label.result.now ≡ normal_label label =
    c.as_str-label.ensures.value ∙ c.in_ok-normalize_label.ensures ∙ ap (λ (s : List ℕ). normal_label (content_codes s)) c.as_bytes.ensures.value in
    let found : first_match label labels ≡ c.find_normal.result =
    ap (λ (n : List ℕ). place_of n (map normal_label labels)) (sym normalized) ∙ sym (c.find_normal.ensures labels held) in
    subst (λ x. OnOk c.count.result (output_view c.count.new.self ≡ x))
    (ap (λ n. lay options default out (CountOf c.in-Some.place n)) normalized
    ∙ sym (ap (λ (place : Option ℕ). fold (lay options default) out (in_bytes (count_at place (normal_label label)))) (found ∙ c.in-Some.is)))
    (c.count.ensures options default)
