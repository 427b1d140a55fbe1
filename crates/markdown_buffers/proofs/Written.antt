-- A loop that writes what it makes of items into an array, one after another.
use Rattle.std.proofs.Common.{◌≡◌, ℕ, List, [], ◌∷◌, ◌++◌, ◌+◌, ◌<◌, ◌≤◌, map, take, drop, length, get_or, set, sym, ap, ◌∙◌, arith}
use Rattle.std.proofs.lemmas.List.{append_assoc, drop_more, length-map, length-take-le, map-append, set_at, take_more}

pub written_more : {X Y : Type 0} (flat : X → Y) (items : List X) (array old : List Y) (i : ℕ) (d : X) → i < length items → length items ≤ length old
    → array ≡ map flat (take i items) ++ drop i old
    → set array i (flat (get_or items i d)) ≡ map flat (take (i + 1) items) ++ drop (i + 1) old
written_more flat items array old i d before fits is =
    let done = map flat (take i items) in
    let item = flat (get_or items i d) in
    let after = drop (i + 1) old in
    let size : length done ≡ i = length-map (take i items) flat ∙ length-take-le i items (omega (arith, before)) in
    let next : drop i old ≡ get_or old i item ∷ after = drop_more old i item (omega (arith, before, fits)) in
    let more : map flat (take (i + 1) items) ≡ done ++ item ∷ [] =
    ap (map flat) (take_more items i d before) ∙ map-append flat (take i items) (get_or items i d ∷ []) in
    ap (λ l. set l i item) (is ∙ ap (λ l. done ++ l) next) ∙ set_at done (get_or old i item) after item i size
    ∙ sym (ap (λ l. l ++ after) more ∙ append_assoc done (item ∷ []) after)
