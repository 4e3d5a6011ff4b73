-- Groups of skeletons that are written alike, for the code that reads and judges them. No public clause cites this file.
use Rattle.std.specs.Prelude.{Bool, true, false}
use Rattle.script_lang.specs.declared.kind.Kind.{Kind}
use Rattle.script_lang.specs.declared.kind.Kind.TheVariants as kind
use Rattle.script_lang.specs.declared.head.Head.{Head}
use Rattle.script_lang.specs.declared.head.Head.TheVariants as head
use Rattle.script_lang.specs.declared.head.MapHead.{MapHead}
use Rattle.script_lang.specs.declared.head.MapHead.TheVariants as mapping
use Rattle.script_lang.specs.declared.head.PlainHead.{PlainHead}
use Rattle.script_lang.specs.declared.head.PlainHead.TheVariants as plain
use Rattle.script_lang.specs.declared.head.FoldHead.{FoldHead}
use Rattle.script_lang.specs.declared.head.FoldHead.TheVariants as fold
use Rattle.script_lang.specs.declared.head.FlatHead.{FlatHead}
use Rattle.script_lang.specs.declared.head.FlatHead.TheVariants as flat
use Rattle.script_lang.specs.declared.head.BothHead.{BothHead}
use Rattle.script_lang.specs.declared.head.BothHead.TheVariants as both
use Rattle.script_lang.specs.declared.head.ChildHead.{ChildHead}
use Rattle.script_lang.specs.declared.head.ChildHead.TheVariants as child

abbrev pub map_head : MapHead → Head
map_head mapping.Map = head.Map
map_head mapping.Filter = head.Filter

abbrev pub plain_head : PlainHead → Head
plain_head plain.Rev = head.Rev
plain_head plain.Iota = head.Iota
plain_head plain.Plain = head.Plain
plain_head plain.Transpose = head.Transpose

abbrev pub fold_head : FoldHead → Head
fold_head fold.Reduce = head.Reduce
fold_head fold.Uacc = head.Uacc

abbrev pub flat_head : FlatHead → Head
flat_head flat.Scan = head.Scan
flat_head flat.Scanr = head.Scanr
flat_head flat.Rows = head.Rows
flat_head flat.Cols = head.Cols

abbrev pub both_head : BothHead → Head
both_head both.Reduce = head.Reduce
both_head both.Scan = head.Scan

abbrev pub child_head : ChildHead → Head
child_head child.Left = head.Getchl
child_head child.Right = head.Getchr

-- kinds whose operators are those on lists and matrices
abbrev pub is_flat_kind : Kind → Bool
is_flat_kind kind.Tree = false
is_flat_kind kind.Rose = false
is_flat_kind k = true
