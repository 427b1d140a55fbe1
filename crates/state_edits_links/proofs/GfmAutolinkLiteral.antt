-- What becomes of data, address by address.
use Rattle.std.proofs.Common.{◌≡◌, ◌∙◌, ℕ, ◌-◌, List, [], ◌∷◌, ◌++◌, map, take, drop, sym, ap, append_assoc}
use Rattle.std.proofs.lemmas.List.{append-nil}
use Rattle.std.specs.List.{fold}
use Rattle.std.proofs.lemmas.List.Sums.{fold-append}
use Rattle.definition_inline.specs.GfmAutolinkLiteral.{with_addresses}
use Rattle.definition_inline.specs.Inline.{InlineLeaf, Data, Literal}
use Rattle.inline_leaves.specs.Leaves.{kind_view}
use Rattle.inline_literals.specs.Addresses.{found_parts}
use Rattle.inline_literals.specs.declared.address.FoundAddress.{FoundAddress}
use Rattle.state_edits_links.specs.GfmAutolinkLiteral.{Linking, with_links, linking, with_address, with_data, with_part}

-- bytes that are data come after those before
data_held : (l : Linking) (bs : List ℕ) → fold with_part l (map Data bs) ≡ linking l.events l.point (l.run ++ bs)
data_held l [] = ap (linking l.events l.point) (sym (append-nil l.run))
data_held l (b ∷ bs) = data_held (linking l.events l.point (l.run ++ b ∷ [])) bs ∙ ap (linking l.events l.point) (append_assoc l.run (b ∷ []) bs)

-- up to an address, and after it
pub found_linked : (l : Linking) (text : List ℕ) (found : FoundAddress) → with_addresses text ≡ found_parts text found
    → with_links l text
    ≡ with_links (with_address (kind_view found.kind) (take (found.end - found.start) (drop found.start text))
    (with_data (linking l.events l.point (l.run ++ take found.start text)))) (drop found.end text)
found_linked l text found h =
    let more : List InlineLeaf = Literal (kind_view found.kind) (take (found.end - found.start) (drop found.start text)) ∷ with_addresses (drop found.end text) in
    ap (λ (parts : List InlineLeaf). with_data (fold with_part l parts)) h
    ∙ ap with_data (fold-append with_part l (map Data (take found.start text)) more)
    ∙ ap (λ (m : Linking). with_data (fold with_part m more)) (data_held l (take found.start text))

-- where no address is left
pub rest_linked : (l : Linking) (text : List ℕ) → with_addresses text ≡ map Data text → with_links l text ≡ with_data (linking l.events l.point (l.run ++ text))
rest_linked l text h = ap (λ (parts : List InlineLeaf). with_data (fold with_part l parts)) h ∙ ap with_data (data_held l text)
