-- What may be entered in the innermost that is open; and what may stand where lines end, or where a string, a text or blocks may stand.
use Rattle.std.proofs.Common.{◌≡◌, ◌⊎◌, inl, inr, List, [], ◌∷◌, ◌++◌, Bool, true, false, ◌||◌, refl, sym, subst}
use Rattle.parse_output.proofs.Prelude.{and_from, and_parts, Entered, list_all, Mark, Name, same_name, the_type, true≢false}
use denote.Enum.Bare.{same_true}
use Rattle.engine_events.specs.Names.{is_listed}
use Rattle.event_grammar.specs.Grammar.{block_names, string_names, text_names}
use Rattle.parse_output.specs.Children.{between_names, has_lines, has_string, has_text, holds_blocks, holds_lines, holds_string, holds_text, may_enter, may_hold}

split : (a b : Bool) → (a || b) ≡ true → (a ≡ true) ⊎ (b ≡ true)
split true b holds = inl refl
split false b holds = inr holds

either : (marks : List Mark) (first name : Name) (names : List Name) → (same_name first name ≡ true) ⊎ (is_listed names name ≡ true)
    → may_enter marks first ≡ true → (is_listed names name ≡ true → may_enter marks name ≡ true) → may_enter marks name ≡ true
either marks first name names (inl same) may others = subst (λ x. may_enter marks x ≡ true) (same_true the_type tt first name same) may
either marks first name names (inr listed) may others = others listed

-- one of several
one_of : (marks : List Mark) (names : List Name) (name : Name) → list_all (may_enter marks) names ≡ true → is_listed names name ≡ true → may_enter marks name ≡ true
one_of marks [] name all listed = absurd (true≢false (sym listed))
one_of marks (first ∷ names) name all listed =
    let parts = and_parts (may_enter marks first) (list_all (may_enter marks) names) all in
    either marks first name names (split (same_name first name) (is_listed names name) listed) parts.0 (one_of marks names name parts.1)

-- fewer of several
some_of : (marks : List Mark) (names fewer : List Name) → list_all (may_enter marks) names ≡ true → list_all (is_listed names) fewer ≡ true
    → list_all (may_enter marks) fewer ≡ true
some_of marks names [] all listed = refl
some_of marks names (first ∷ fewer) all listed =
    let parts = and_parts (is_listed names first) (list_all (is_listed names) fewer) listed in
    and_from (may_enter marks first) (list_all (may_enter marks) fewer) (one_of marks names first all parts.0) (some_of marks names fewer all parts.1)

-- the innermost by its name
pub enters_in : (own name : Name) (marks : List Mark) → may_hold own name ≡ true → may_enter (Entered own ∷ marks) name ≡ true
unfolding may_enter
enters_in own name marks holds = holds

pub lines_in : (own : Name) (marks : List Mark) → has_lines own ≡ true → holds_lines (Entered own ∷ marks) ≡ true
unfolding may_enter has_lines holds_lines
lines_in own marks has = has

pub string_in : (own : Name) (marks : List Mark) → has_string own ≡ true → holds_string (Entered own ∷ marks) ≡ true
unfolding may_enter has_string holds_string
string_in own marks has = has

pub text_in : (own : Name) (marks : List Mark) → has_text own ≡ true → holds_text (Entered own ∷ marks) ≡ true
unfolding may_enter has_text holds_text
text_in own marks has = has

-- one name of those that may stand there
pub lines_may : (marks : List Mark) (name : Name) → holds_lines marks ≡ true → is_listed between_names name ≡ true → may_enter marks name ≡ true
unfolding holds_lines
lines_may marks name holds listed = one_of marks between_names name holds listed

pub string_may : (marks : List Mark) (name : Name) → holds_string marks ≡ true → is_listed (between_names ++ string_names) name ≡ true
    → may_enter marks name ≡ true
unfolding holds_string
string_may marks name holds listed = one_of marks (between_names ++ string_names) name holds listed

pub text_may : (marks : List Mark) (name : Name) → holds_text marks ≡ true → is_listed (between_names ++ text_names) name ≡ true
    → may_enter marks name ≡ true
unfolding holds_text
text_may marks name holds listed = one_of marks (between_names ++ text_names) name holds listed

pub blocks_may : (marks : List Mark) (name : Name) → holds_blocks marks ≡ true → is_listed (between_names ++ block_names) name ≡ true
    → may_enter marks name ≡ true
unfolding holds_blocks
blocks_may marks name holds listed = one_of marks (between_names ++ block_names) name holds listed

-- lines may end there
pub string_lines : (marks : List Mark) → holds_string marks ≡ true → holds_lines marks ≡ true
unfolding holds_lines holds_string
string_lines marks holds = some_of marks (between_names ++ string_names) between_names holds refl

pub text_lines : (marks : List Mark) → holds_text marks ≡ true → holds_lines marks ≡ true
unfolding holds_lines holds_text
text_lines marks holds = some_of marks (between_names ++ text_names) between_names holds refl

pub blocks_lines : (marks : List Mark) → holds_blocks marks ≡ true → holds_lines marks ≡ true
unfolding holds_lines holds_blocks
blocks_lines marks holds = some_of marks (between_names ++ block_names) between_names holds refl

-- ---- what several functions look for

-- a block with lines of its own
pub ruleset line_blocks = (blocks_may, enters_in, lines_in)

-- a heading, with lines and a text
pub ruleset headings = (blocks_may, enters_in, lines_in, text_in)

-- a part that holds lines, and stands among lines
pub ruleset line_parts = (enters_in, lines_in, lines_may)

-- a block with lines, and parts in it that hold lines
pub ruleset part_blocks = (blocks_may, enters_in, lines_in, lines_may)
