use Rattle.std.proofs.Common.{◌≡◌, ℕ, true, false, cond, List, [], ◌∷◌, ◌++◌, map, Some, string_bytes, sym, ap, ◌∙◌}
use Rattle.std.proofs.lemmas.List.{map-append, length-map}
use Rattle.std.proofs.lemmas.Map.Text.{btree_map_updates_text}
use Rattle.std.specs.BTreeMap.{get_by_text}
use Rattle.std.specs.Option.{is_some}
use Rattle.std.specs.Str.{bytes_eq}
use Rattle.definition_text.specs.Content.{content_codes}
use Rattle.definition_inline.specs.LabelMatch.{normal_label, place_of}
use Rattle.inline_labels.proofs.Places.{place_of-kept, place_of-added}
use Rattle.inline_labels.proofs.table.LabelTable.insert.Goals as goal

-- one label more, as it is matched
normal-push : (labels : List (List ℕ)) (label q : List ℕ) → place_of q (map normal_label labels ++ normal_label label ∷ [])
    ≡ place_of q (map normal_label (labels ++ label ∷ []))
normal-push labels label q = ap (place_of q) (sym (map-append normal_label labels (label ∷ [])))

pub returns-then-contains_key-clause-added : goal.returns-then-contains_key-clause-added
returns-then-contains_key-clause-added g c = λ labels held last.
    let found = get_by_text c.args.self.now.places in
    let codes = content_codes c.args.label.now in
    let some : is_some (found (normal_label codes)) ≡ true =
    ap (λ key. is_some (found key)) (sym (c.as_str.ensures.value ∙ c.in_ok-normalize_label.ensures)) ∙ sym c.contains_key.ensures ∙ c.if-contains_key.true in
    record { places = λ q. place_of-kept found (map normal_label labels) (normal_label codes) held.places some q ∙ normal-push labels codes q }

pub returns-clause-added : goal.returns-clause-added
returns-clause-added g c = λ labels held last.
    let found = get_by_text c.args.self.now.places in
    let codes = content_codes c.args.label.now in
    let none : is_some (found (normal_label codes)) ≡ false =
    ap (λ key. is_some (found key)) (sym (c.as_str.ensures.value ∙ c.in_ok-normalize_label.ensures)) ∙ sym c.contains_key.ensures ∙ c.if-contains_key.false in
    let step : (q : List ℕ) → get_by_text c.insert.new.self q ≡ cond (bytes_eq (normal_label codes) q) (Some c.args.place) (found q) = λ q.
    btree_map_updates_text (string_bytes c.normalize_label.new.normal) c.args.self.now.places c.insert.new.self
    (Some c.args.place) c.in_ok-insert.ensures.updates q
    ∙ ap (λ key. cond (bytes_eq key q) (Some c.args.place) (found q)) c.in_ok-normalize_label.ensures in
    record {
      places = λ q.
          place_of-added found (get_by_text c.insert.new.self) (map normal_label labels) (normal_label codes) c.args.place held.places none
          (last ∙ sym (length-map labels normal_label)) step q
          ∙ normal-push labels codes q;
    }
