-- Inline structure of codes that stand for themselves.
use Rattle.std.proofs.Common.{◌≡◌, true, false}
use Rattle.laws_endings.proofs.Prelude.{Autolink, Call, Character, Code, Cons, Data, Escape, Html, Inline, InlineLeaf, Inlines, Leaf, LineEnd, Linked, Literal}
use Rattle.laws_endings.proofs.Prelude.{Math, Nil, Reference, Resource, Span, Target}
use Rattle.laws_endings.proofs.Each.{Each}
use Rattle.laws_endings.proofs.Fits.{Single, Plain, TitleFits}

-- where something leads: a destination without line endings, and a title
abbrev pub TargetFits : Target → Type 0
TargetFits (Resource destination title) = Each Plain destination × TitleFits title
TargetFits (Reference label) = Unit {0}

-- a leaf of such codes, and no character reference
abbrev pub IsFitLeaf : InlineLeaf → Type 0
IsFitLeaf (Data b) = Plain b
IsFitLeaf (Escape b) = Plain b
IsFitLeaf (Character bytes) = true ≡ false
IsFitLeaf (Code text) = Each Plain text
IsFitLeaf (Math text) = Each Plain text
IsFitLeaf (Autolink is_email text) = Each Plain text
IsFitLeaf (Literal kind text) = Each Plain text
IsFitLeaf (Html html) = Each Single html
IsFitLeaf (LineEnd code) = Single code
IsFitLeaf other = Unit {0}

-- parts whose leaves and targets fit
abbrev mutual
  pub IsFit : Inline → Type 0
  IsFit (Leaf part) = IsFitLeaf part
  IsFit (Span kind kids) = AreFit kids
  IsFit (Linked kind target kids) = TargetFits target × AreFit kids
  IsFit (Call label) = Unit {0}

  pub AreFit : Inlines → Type 0
  AreFit Nil = Unit {0}
  AreFit (Cons i is) = IsFit i × AreFit is
