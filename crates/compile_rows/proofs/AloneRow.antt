-- A text that is one piece of data, with spaces around it or not.
use Rattle.std.proofs.Common.{◌≡◌, ◌≤◌, ◌-◌, ◌==◌, ℕ, Bool, true, false, ◌&&◌, not, List, [], ◌∷◌, ◌++◌, refl, sym, ap, ◌∙◌, drop, take, length, get_or, arith}
use Rattle.std.proofs.Math.Seq.{take-length}
use Rattle.compile_rows.proofs.Prelude.{data_rows, enter_rows, entered, eqb-true, Event, InlineRow, Kind, LinkTexts, Name, Names, place, Place, rows_by}
use Rattle.compile_rows.proofs.Prelude.{same_name, Target, text_first, valid}
use Rattle.engine_events.specs.declared.event.Kind.TheVariants.{Enter, Exit}
use Rattle.engine_events.specs.declared.event.Name.TheVariants as n
use Rattle.compile_strings.specs.RawTexts.{begins, is_exit}
use Rattle.compile_rows.specs.declared.rows.Mode.TheVariants.{Text}
use Rattle.compile_rows.proofs.Walks.{enters, exits}

-- ---- the first two events

taken_all : (n : ℕ) (xs : List Event) → n ≡ length xs → take n xs ≡ xs
taken_all n xs h = ap (λ (k : ℕ). take k xs) h ∙ take-length xs

pub two_first : (own : List Event) (other : Event) (size : ℕ) → 2 ≤ length own → size ≡ length own
    → own ≡ get_or own 0 other ∷ get_or own 1 other ∷ take (size - 2) (drop 2 own)
two_first [] other size some is = absurd (omega (arith, some))
two_first (x ∷ []) other size some is = absurd (omega (arith, some))
two_first (x ∷ y ∷ es) other size some is = sym (ap (λ (z : List Event). x ∷ y ∷ z) (taken_all (size - 2) es (omega (arith, is))))

kind_by : (k : Kind) (b : Bool) → (not (is_exit k) && b) ≡ true → k ≡ Enter
kind_by Enter b h = refl
kind_by Exit b h = absurd (let g : false ≡ true = h in cc)

named_by : (k : Kind) (b : Bool) → (not (is_exit k) && b) ≡ true → b ≡ true
named_by Enter b h = h
named_by Exit b h = absurd (let g : false ≡ true = h in cc)

exit_is : (k : Kind) → is_exit k ≡ true → k ≡ Exit
exit_is Enter h = absurd (let g : false ≡ true = h in cc)
exit_is Exit h = refl

data_is : (name : Name) → same_name name n.Data ≡ true → name ≡ n.Data
data_is n.Data h = refl
data_is name h = absurd (let g : false ≡ true = h in cc)

pub empty_is : (es : List Event) → (length es == 0) ≡ true → es ≡ []
empty_is [] h = refl
empty_is (e ∷ es) h = absurd (let l = eqb-true (length (e ∷ es)) 0 h in omega (arith, l))

module _ (names : Names) (bytes : List ℕ) (leads : Target → LinkTexts) (in_link : Bool) where
  abbrev in_text : List Event → List InlineRow
  in_text = rows_by names bytes leads in_link (place Text 0 0)

  -- an event that holds none, and is no span
  pair_by : (name : Name) (rows : List InlineRow) (enter exit : Event) (es : List Event) → enter.kind ≡ Enter → exit.kind ≡ Exit → enter.name ≡ name
      → enter_rows names bytes leads in_link (place Text 0 0) name (enter ∷ exit ∷ es) ≡ rows → entered (place Text 0 0) name ≡ place Text 1 0
      → in_text (enter ∷ exit ∷ es) ≡ rows ++ in_text es
  pair_by name rows enter exit es h k is first inside =
      let own = enter ∷ exit ∷ es in
      enters names bytes leads in_link (place Text 0 0) enter (exit ∷ es) h
      ∙ ap (λ (z : Name). enter_rows names bytes leads in_link (place Text 0 0) z own
      ++ rows_by names bytes leads in_link (entered (place Text 0 0) z) (exit ∷ es)) is
      ∙ ap (λ (z : List InlineRow). z ++ rows_by names bytes leads in_link (entered (place Text 0 0) name) (exit ∷ es)) first
      ∙ ap (λ (p : Place). rows ++ rows_by names bytes leads in_link p (exit ∷ es)) inside
      ∙ ap (λ (z : List InlineRow). rows ++ z) (exits names bytes leads in_link (place Text 1 0) exit es k)

  pub space_passed : (own es : List Event) (enter exit : Event) → own ≡ enter ∷ exit ∷ es → enter.kind ≡ Enter → exit.kind ≡ Exit
      → enter.name ≡ n.SpaceOrTab → in_text es ≡ in_text own
  space_passed own es enter exit split h k is = sym (ap in_text split ∙ pair_by n.SpaceOrTab [] enter exit es h k is refl refl)

  pub data_alone : (own es : List Event) (enter exit : Event) → own ≡ enter ∷ exit ∷ es → enter.kind ≡ Enter → exit.kind ≡ Exit
      → enter.name ≡ n.Data → in_text es ≡ [] → data_rows (valid (text_first bytes own)) ++ [] ≡ in_text own
  data_alone own es enter exit split h k is none =
      ap (λ (z : List Event). data_rows (valid (text_first bytes z)) ++ []) split
      ∙ ap (λ (z : List InlineRow). data_rows (valid (text_first bytes (enter ∷ exit ∷ es))) ++ z) (sym none)
      ∙ sym (ap in_text split
      ∙ pair_by n.Data (data_rows (valid (text_first bytes (enter ∷ exit ∷ es)))) enter exit es h k is refl refl)

  -- by what the code tests
  pub alone_by : (events own es left : List Event) (enter exit : Event) → in_text own ≡ in_text events
      → own ≡ enter ∷ exit ∷ es → begins n.Data enter ≡ true → is_exit exit.kind ≡ true → in_text left ≡ in_text es → left ≡ []
      → data_rows (valid (text_first bytes own)) ++ [] ≡ in_text events
  alone_by events own es left enter exit over split is ends same none =
      data_alone own es enter exit split (kind_by enter.kind (same_name enter.name n.Data) is) (exit_is exit.kind ends)
      (data_is enter.name (named_by enter.kind (same_name enter.name n.Data) is)) (sym same ∙ ap in_text none)
      ∙ over
