-- Names of events that hold no other.
use Rattle.std.proofs.Common.{◌≡◌, Bool, true, false, not, ◌&&◌, ◌||◌, List, [], ◌∷◌, refl}
use Rattle.event_grammar.proofs.Prelude.{and_parts, cell_names, Form, is_listed, is_void, link_names, mdx_names, Name, row, same_name, Slot}
use Rattle.engine_events.specs.declared.event.Name.TheVariants as n
use Rattle.event_grammar.proofs.EveryName.{in_forms, of_each, of_form}

-- no row in any form, and no rule of its own
pub record IsAlone (name : Name) : Type 0 where
  pub row_is : (form : Form) → row name form ≡ []
  pub mdx : is_listed mdx_names name ≡ false
  pub link : is_listed link_names name ≡ false
  pub cell : is_listed cell_names name ≡ false
  pub delimiter : same_name name n.GfmTableDelimiterRow ≡ false
  pub head : same_name name n.GfmTableRow ≡ false

abbrev is_nothing : List Slot → Bool
is_nothing [] = true
is_nothing (slot ∷ slots) = false

nothing : (slots : List Slot) → is_nothing slots ≡ true → slots ≡ []
nothing [] h = refl
nothing (slot ∷ slots) h = absurd (let f : false ≡ true = h in cc)

abbrev has_rule : Name → Bool
has_rule name =
    is_listed mdx_names name || is_listed link_names name || is_listed cell_names name || same_name name n.GfmTableDelimiterRow
    || same_name name n.GfmTableRow

record NoneOf (a b c d e : Bool) : Type 0 where
  mdx : a ≡ false
  link : b ≡ false
  cell : c ≡ false
  delimiter : d ≡ false
  head : e ≡ false

none_of : (a b c d e : Bool) → not (a || b || c || d || e) ≡ true → NoneOf a b c d e
none_of true b c d e h = absurd (let f : false ≡ true = h in cc)
none_of false true c d e h = absurd (let f : false ≡ true = h in cc)
none_of false false true d e h = absurd (let f : false ≡ true = h in cc)
none_of false false false true e h = absurd (let f : false ≡ true = h in cc)
none_of false false false false true h = absurd (let f : false ≡ true = h in cc)
none_of false false false false false h = record { mdx = refl; link = refl; cell = refl; delimiter = refl; head = refl }

implied : (a b : Bool) → (not a || b) ≡ true → a ≡ true → b ≡ true
implied true b h t = h
implied false b h t = absurd (let f : false ≡ true = t in cc)

pub alone : (name : Name) → is_void name ≡ true → IsAlone name
alone name h =
    let rows = in_forms (λ form. is_nothing (row name form)) in
    let both =
    and_parts rows (not (has_rule name))
    (implied (is_void name) (rows && not (has_rule name))
    (of_each (λ name. not (is_void name) || (in_forms (λ form. is_nothing (row name form)) && not (has_rule name))) refl name) h) in
    let none =
    none_of (is_listed mdx_names name) (is_listed link_names name) (is_listed cell_names name) (same_name name n.GfmTableDelimiterRow)
    (same_name name n.GfmTableRow) both.1 in
    record {
      row_is = λ form. nothing (row name form) (of_form (λ form. is_nothing (row name form)) both.0 form);
      mdx = none.mdx;
      link = none.link;
      cell = none.cell;
      delimiter = none.delimiter;
      head = none.head;
    }
