-- Names of tags: frequent ones, those of `a`, and those of both tables.
use Rattle.std.proofs.Common.{◌≡◌, ℕ, List, [], ◌∷◌, ◌++◌, Bool, true, false, ◌||◌, eqb, Option, None, Some, Bor, drop, refl, sym, ap, ◌∙◌, subst, inl, inr}
use Rattle.std.specs.List.{list_any, list_all, starts_with}
use Rattle.std.specs.Option.{is_some, option_copied, option_map, option_or}
use Rattle.std.specs.Str.{bytes_eq}
use Rattle.std.proofs.lemmas.Bool.{cases_Bool, true≢false, false≢true, and_parts, eqb-true}
use Rattle.html_safe_page.specs.Table.{Row, start_rows, start_rows_of, more_start_rows, void_rows, more_void_rows}
use Rattle.html_safe_page.specs.declared.table.TagTable.{TagTable}
use Rattle.html_safe_page.specs.declared.table.TagTable.TheVariants.{Basic, Extended}
use Rattle.html_safe_page.specs.SafePage.{Tag, void_end}
use Rattle.html_safe_page.specs.Reader.{read_row, read_tag}
use Rattle.html_safe_page.proofs.Spelled.{same_bytes}

abbrev pub name_read : List ℕ → Option (List ℕ)
name_read tag = option_map (λ (t : Tag). t.name) (read_tag start_rows [] tag)

abbrev is_named : List ℕ → Option (List ℕ) → Bool
is_named tag None = false
is_named tag (Some name) = bytes_eq name tag

-- a tag is read as its name
abbrev pub is_own : List ℕ → Bool
is_own tag = is_named tag (name_read tag)

own_name : (tag : List ℕ) (o : Option (List ℕ)) → is_named tag o ≡ true → Some tag ≡ o
own_name tag None h = absurd (false≢true h)
own_name tag (Some name) h = ap (λ x. Some x) (sym (same_bytes name tag h))

own_found : (names : List (List ℕ)) (tag : List ℕ) → list_all is_own names ≡ true → list_any (λ name. bytes_eq name tag) names ≡ true → is_own tag ≡ true
own_found [] tag h k = absurd (false≢true k)
own_found (n ∷ ns) tag h k =
    let parts = and_parts (is_own n) (list_all is_own ns) h in
    elim (cases_Bool (bytes_eq n tag)) [
      | inl e ↦ subst (λ x. is_own x ≡ true) (same_bytes n tag e) parts.0
      | inr e ↦ own_found ns tag parts.1 (ap (λ x. x || list_any (λ name. bytes_eq name tag) ns) (sym e) ∙ k)
    ]

pub frequent_read : (names : List (List ℕ)) (tag : List ℕ) → list_all is_own names ≡ true → list_any (λ name. bytes_eq name tag) names ≡ true
    → Some tag ≡ name_read tag
frequent_read names tag h k = own_name tag (name_read tag) (own_found names tag h k)

-- only the last rows are of `a`
link_rows : (bs : List ℕ) → read_tag (drop 31 start_rows) [] (97 ∷ bs) ≡ read_tag start_rows [] (97 ∷ bs)
unfolding start_rows
link_rows bs = refl

pub link_read : (tag : List ℕ) → starts_with eqb tag (97 ∷ []) ≡ true
    → option_map (λ (t : Tag). t.name) (read_tag (drop 31 start_rows) [] tag) ≡ name_read tag
link_read [] h = absurd (false≢true h)
link_read (b ∷ bs) h =
    let e : b ≡ 97 = sym (eqb-true 97 b (and_parts (eqb 97 b) true h).0) in
    ap (option_map (λ (t : Tag). t.name))
    (ap (λ b. read_tag (drop 31 start_rows) [] (b ∷ bs)) e ∙ link_rows bs ∙ ap (λ b. read_tag start_rows [] (b ∷ bs)) (sym e))

-- ---- both tables

rows_after : (rows more : List Row) (ending bytes : List ℕ)
    → read_tag (rows ++ more) ending bytes ≡ option_or (read_tag rows ending bytes) (read_tag more ending bytes)
rows_after [] more ending bytes = refl
rows_after (row ∷ rows) more ending bytes =
    ap (option_or (read_row ending bytes row)) (rows_after rows more ending bytes)
    ∙ either_then (read_row ending bytes row) (read_tag rows ending bytes) (read_tag more ending bytes)
  where
    either_then : (a b c : Option Tag) → option_or a (option_or b c) ≡ option_or (option_or a b) c
    either_then None b c = refl
    either_then (Some t) b c = refl

first_name : (a b : Option Tag) (n : List ℕ) → Some n ≡ option_map (λ (t : Tag). t.name) a → Some n ≡ option_map (λ (t : Tag). t.name) (option_or a b)
first_name None b n h = absurd (true≢false (ap is_some h))
first_name (Some t) b n h = h

later_name : (a b : Option Tag) → None ≡ option_map (λ (t : Tag). t.name) a
    → option_map (λ (t : Tag). t.name) b ≡ option_map (λ (t : Tag). t.name) (option_or a b)
later_name None b h = refl
later_name (Some t) b h = absurd (false≢true (ap is_some h))

-- the name of a tag by a table
abbrev pub name_by : TagTable → List ℕ → Option (List ℕ)
name_by table tag = option_map (λ (t : Tag). t.name) (read_tag (start_rows_of table) [] tag)

-- a name by the basic table is one by both
pub basic_read : (table : TagTable) (tag n : List ℕ) → Some n ≡ name_read tag → Some n ≡ name_by table tag
basic_read Basic tag n h = h
basic_read Extended tag n h =
    first_name (read_tag start_rows [] tag) (read_tag more_start_rows [] tag) n h
    ∙ ap (option_map (λ (t : Tag). t.name)) (sym (rows_after start_rows more_start_rows [] tag))

more_read : (tag : List ℕ) → None ≡ name_read tag → option_map (λ (t : Tag). t.name) (read_tag more_start_rows [] tag) ≡ name_by Extended tag
more_read tag h =
    later_name (read_tag start_rows [] tag) (read_tag more_start_rows [] tag) h
    ∙ ap (option_map (λ (t : Tag). t.name)) (sym (rows_after start_rows more_start_rows [] tag))

pub basic_kept : (table : TagTable) (tag : List ℕ) (r : Option (Bor (List ℕ))) → is_some r ≡ true → option_copied r ≡ name_read tag
    → option_copied r ≡ name_by table tag
basic_kept table tag None e h = absurd (false≢true e)
basic_kept table tag (Some name) e h = basic_read table tag name.now h

pub more_kept : (tag : List ℕ) (r o : Option (Bor (List ℕ))) → is_some r ≡ false → option_copied r ≡ name_read tag
    → option_copied o ≡ option_map (λ (t : Tag). t.name) (read_tag more_start_rows [] tag) → option_copied o ≡ name_by Extended tag
more_kept tag None o e h k = k ∙ more_read tag h
more_kept tag (Some name) o e h k = absurd (true≢false e)

some_either : (a b : Option Tag) → (is_some a || is_some b) ≡ is_some (option_or a b)
some_either None b = refl
some_either (Some t) b = refl

pub void_read : (tag : List ℕ)
    → (is_some (read_tag void_rows void_end tag) || is_some (read_tag more_void_rows void_end tag)) ≡ is_some
    (read_tag (void_rows ++ more_void_rows) void_end tag)
void_read tag =
    some_either (read_tag void_rows void_end tag) (read_tag more_void_rows void_end tag) ∙ ap is_some (sym (rows_after void_rows more_void_rows void_end tag))
