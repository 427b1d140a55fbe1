-- A level after blocks in it.
use Rattle.std.proofs.Common.{◌≡◌, refl}
use Rattle.definition_block.specs.Tree.{Blocks, Nil, Cons}
use Rattle.html_bytes.specs.Html.{ends_tight}
use Rattle.block_rows.specs.Rows.{Single}
use Rattle.html_looseness.specs.declared.level.Level.{Level}
use Rattle.html_looseness.specs.Levels.{level_after}

abbrev pub level_past : Level → Blocks → Level
level_past l Nil = l
level_past l (Cons b bs) = level_past (level_after l (Single b)) bs

pub past_kind : (l : Level) (bs : Blocks) → (level_past l bs).holder ≡ l.holder
past_kind l Nil = refl
past_kind l (Cons b bs) = past_kind (level_after l (Single b)) bs

pub past_plain : (l : Level) (bs : Blocks) → ends_tight l.tight l.plain bs ≡ (level_past l bs).plain
past_plain l Nil = refl
past_plain l (Cons b bs) = past_plain (level_after l (Single b)) bs
