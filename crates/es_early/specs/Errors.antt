-- The early errors of a tree, and the first of them.
use Rattle.std.specs.Prelude.{◌≡◌, ℕ, ◌==◌, ◌&&◌, ◌||◌, nat_le, nat_lt, Bool, List, Some, IsTrue}
use Rattle.es_text.specs.declared.token.SourceType.{SourceType}
use Rattle.es_tree.specs.Rows.{Row, span_of}
use Rattle.es_early.specs.declared.code.Early.{Early}
use Rattle.es_early.specs.declared.code.TheConstants.{DOUBLED_LABEL, REDECLARED, SECOND_DEFAULT, STRAY_BREAK, STRAY_CONTINUE, STRAY_RETURN, STRAY_SUPER, UNDECLARED_PRIVATE}
use Rattle.es_early.specs.Declarations.{IsRedeclared}
use Rattle.es_early.specs.Defaults.{IsSecondDefault}
use Rattle.es_early.specs.Jumps.{is_stray_break, is_stray_continue}
use Rattle.es_early.specs.Labels.{is_doubled_label}
use Rattle.es_early.specs.PrivateNames.{IsUndeclaredPrivate}
use Rattle.es_early.specs.Returns.{is_stray_return}
use Rattle.es_early.specs.Supers.{is_stray_super}

-- the node is an early error of this code
pub data IsError (rows : List Row) (source_type : SourceType) (code node : ℕ) : Type 0 where
  Return : code ≡ STRAY_RETURN → IsTrue (is_stray_return rows source_type node) → IsError rows source_type code node
  Break : code ≡ STRAY_BREAK → IsTrue (is_stray_break rows node) → IsError rows source_type code node
  Continue : code ≡ STRAY_CONTINUE → IsTrue (is_stray_continue rows node) → IsError rows source_type code node
  Label : code ≡ DOUBLED_LABEL → IsTrue (is_doubled_label rows node) → IsError rows source_type code node
  Declaration : code ≡ REDECLARED → IsRedeclared rows node → IsError rows source_type code node
  PrivateName : code ≡ UNDECLARED_PRIVATE → IsUndeclaredPrivate rows node → IsError rows source_type code node
  Super : code ≡ STRAY_SUPER → IsTrue (is_stray_super rows node) → IsError rows source_type code node
  Default : code ≡ SECOND_DEFAULT → IsSecondDefault rows node → IsError rows source_type code node

-- some node of this span is an early error of this code
pub record IsCase (rows : List Row) (source_type : SourceType) (early : Early) : Type 0 where
  pub node : ℕ
  pub error : IsError rows source_type early.code node
  pub span : span_of rows node ≡ Some early.span

-- the one starts before the other, or at the same place and has a smaller code, or the same and ends no later
abbrev pub is_before : Early → Early → Bool
is_before first other =
    nat_lt first.span.start other.span.start
    || (first.span.start == other.span.start
    && (nat_lt first.code other.code || (first.code == other.code && nat_le first.span.end other.span.end)))

-- no early error
abbrev pub HasNone : List Row → SourceType → Type 0
HasNone rows source_type = (early : Early) → IsCase rows source_type early → ⊥

-- a case, and no other stands before it
pub record IsFirst (rows : List Row) (source_type : SourceType) (early : Early) : Type 0 where
  pub itself : IsCase rows source_type early
  pub first : (other : Early) → IsCase rows source_type other → IsTrue (is_before early other)

-- a tree has one first early error at most
abbrev pub FirstOnce : Type 0
FirstOnce = (rows : List Row) (source_type : SourceType) (one other : Early) →
    IsFirst rows source_type one → IsFirst rows source_type other → one ≡ other
