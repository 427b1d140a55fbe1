-- Rows of footnotes that are called, and what they show.
use Rattle.std.proofs.Common.{◌≡◌, ℕ, ◌+◌, ◌<◌, List, length, map, get_or, slice_set, string_bytes, sym, ap, ◌∙◌, add-one, arith}
use Rattle.html_footnotes.proofs.Prelude.{Call, called_view, CalledFootnote, get_or_default, latest_call, number_of, with_one_more}
use Rattle.std.proofs.lemmas.List.{get_or-map, map-set}
use Rattle.std.proofs.Math.ListN.{get_or-map as get_or-map_default}
use Rattle.html_bytes.specs.Layout as layout
use Rattle.html_footnotes.proofs.Numbers.{latest_found}

-- one more call of a row is one more call of what it shows
pub row_raised : {A : Type 0} (rows : List (CalledFootnote A)) (at : ℕ) (x y : CalledFootnote A) (count : ℕ) (d : layout.NoteCalls) → at < length rows
    → x ≡ get_or rows at x
    → y ≡ get_or rows at y
    → count ≡ y.count + 1 → map called_view (slice_set rows at (record { place = x.place; label = x.label; count = count }))
    ≡ slice_set (map called_view rows) at (with_one_more (get_or (map called_view rows) at d))
row_raised {A} rows at x y count d within is_x is_y more =
    let same : x ≡ y = is_x ∙ get_or_default rows at x y within ∙ sym is_y in
    let seen : get_or (map called_view rows) at d ≡ called_view y = get_or-map called_view rows at y d within ∙ ap called_view (sym is_y) in
    let new : CalledFootnote A = record { place = x.place; label = x.label; count = count } in
    let shown : called_view new ≡ with_one_more (called_view y) =
    ap (λ (r : CalledFootnote A). called_view (let c : CalledFootnote A = record { place = r.place; label = r.label; count = count } in c)) same
    ∙ ap (λ (n : ℕ). let c : layout.NoteCalls = record { place = y.place; label = string_bytes y.label; count = n } in c) (more ∙ add-one y.count) in
    map-set called_view rows at new ∙ ap (slice_set (map called_view rows) at) (shown ∙ ap with_one_more (sym seen))

-- the latest call of the footnote of a row
pub row_latest : {A : Type 0} (rows : List (CalledFootnote A)) (place number at : ℕ) (x : CalledFootnote A) (label : List ℕ) → label ≡ string_bytes x.label
    → x ≡ get_or rows at x → number ≡ 1 + at
    → number_of place (map called_view rows) ≡ 1 + at → (let call : Call = record { label = label; number = number; count = x.count } in
    call) ≡ latest_call place 1 (map called_view rows)
row_latest {A} rows place number at x label is_label is_x size stands =
    let shown : get_or (map called_view rows) at (called_view x) ≡ called_view x = get_or-map_default called_view rows at x ∙ ap called_view (sym is_x) in
    ap (λ (l : List ℕ). let call : Call = record { label = l; number = number; count = x.count } in call) is_label
    ∙ ap (λ (n : ℕ). let call : Call = record { label = string_bytes x.label; number = n; count = x.count } in call) size
    ∙ ap (λ (r : layout.NoteCalls). let call : Call = record { label = r.label; number = 1 + at; count = r.count } in call) (sym shown)
    ∙ sym (latest_found place 1 at (map called_view rows) (called_view x) (omega arith) stands)
