-- The codes that the content in a buffer stands for, before a character of a kind.
use Rattle.std.specs.Prelude.{ℕ, Bool, List, string_bytes}
use Rattle.markdown_options.specs.declared.beside.Kind.{Kind}
use Rattle.definition_text.specs.InlineCode.{InlineCode}
use Rattle.inline_content.specs.declared.buffer.ContentBuffer.{ContentBuffer}
use Rattle.inline_content.specs.View.{codes_with_marks}

abbrev pub buffer_view : {A : Type 0} → (ℕ → Bool) → Kind → ContentBuffer A → List InlineCode
buffer_view is_punctuation after buffer = codes_with_marks is_punctuation after buffer.marks.items (string_bytes buffer.text)
