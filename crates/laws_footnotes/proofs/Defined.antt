-- Where the calls of a page lead.
use Rattle.std.proofs.Common.{◌≡◌, ◌<◌, ℕ, not, List, [], ◌∷◌, map, Option, None, Some, length, refl, sym, ◌∙◌, subst, get_or}
use Rattle.std.specs.List.{All}
use Rattle.std.specs.Str.{bytes_eq}
use Rattle.std.proofs.lemmas.List.{get_or-map, length-map}
use Rattle.std.proofs.lemmas.List.Elements.{All-nil, All-cons}
use Rattle.std.proofs.lemmas.List.Quantifiers.{position-Some}
use Rattle.std.proofs.lemmas.Slice.Eq.{bytes_eq-Decides}
use Rattle.definition_inline.specs.LabelMatch.{normal_label, first_match}
use Rattle.definition_page.specs.Pieces.{Piece, CallOf, CountOf}
use Rattle.definition_page.specs.InlinePieces.{Meaning, call_at, count_at}
use Rattle.definition_page.specs.DocumentPieces.{meaning_of}
use Rattle.definition_page.specs.Layout.{NamedCall, named_call, named_calls}
use Rattle.definition_page.proofs.PagePieces.{PiecesGood, Prints, any_blocks, page_good}
use Rattle.laws_footnotes.specs.Defined.{HasDefinition, CallHasDefinitionLaw}

-- ---- labels

-- a label leads to the footnote at its first match
leads_there : (labels : List (List ℕ)) (label : List ℕ) (place : ℕ) → first_match label labels ≡ Some place
    → HasDefinition labels (named_call place (normal_label label))
leads_there labels label place found =
    let normal = normal_label label in
    let is = position-Some (bytes_eq normal) (map normal_label labels) place [] found in
    let within : place < length labels = subst (λ (n : ℕ). place < n) (length-map labels normal_label) is.0 in
    let there = get_or-map normal_label labels place [] [] within in
    (within, sym ((bytes_eq-Decides normal (get_or (map normal_label labels) place [])).0 is.1 ∙ there))

-- ---- pieces

module _ (m : Meaning) where
  abbrev Has : NamedCall → Type 0
  Has call = HasDefinition m.footnotes call

  -- a piece that is a call has a definition
  abbrev Leads : Piece → Type 0
  Leads (CallOf place label) = Has (named_call place label)
  Leads (CountOf place label) = Has (named_call place label)
  Leads piece = Unit {0}

  call_leads : (label : List ℕ) (found : Option ℕ) → first_match label m.footnotes ≡ found → PiecesGood Leads (call_at found (normal_label label))
  call_leads label None h = tt
  call_leads label (Some place) h = (leads_there m.footnotes label place h, tt)

  count_leads : (label : List ℕ) (found : Option ℕ) → first_match label m.footnotes ≡ found → PiecesGood Leads (count_at found (normal_label label))
  count_leads label None h = tt
  count_leads label (Some place) h = (leads_there m.footnotes label place h, tt)

  lead : Prints Leads m
  lead =
      record {
        opens = λ t own. tt;
        closes = λ name. tt;
        voids = λ t own. tt;
        said = λ part. tt;
        eol = tt;
        fresh = tt;
        names = λ on t text own. tt;
        calls = λ label. call_leads label (first_match label m.footnotes) refl;
        counts = λ label. count_leads label (first_match label m.footnotes) refl;
      }

  -- then each of its calls has one
  all_have : (ps : List Piece) → PiecesGood Leads ps → All Has (named_calls ps)
  all_have [] h = All-nil Has
  all_have (CallOf place label ∷ ps) h = All-cons Has (named_call place label) (named_calls ps) h.0 (all_have ps h.1)
  all_have (CountOf place label ∷ ps) h = All-cons Has (named_call place label) (named_calls ps) h.0 (all_have ps h.1)
  all_have (p ∷ ps) h = all_have ps h.1

pub call_has_definition_law : CallHasDefinitionLaw
call_has_definition_law tables options page =
    let m = meaning_of tables options page in
    all_have m _ (page_good (Leads m) m (lead m) _ (any_blocks (Leads m) tt tt) (λ t. tt) page.blocks (not page.ends_blank) tt)
