-- The operators on trees by name: what elements each takes, and what type it gives.
use Rattle.std.specs.Prelude.{ℕ, List, [], ◌∷◌, Option, Result, Ok, find, codes, bytes_eq}
use Rattle.op_laws.specs.declared.width.Width.{Width}
use Rattle.op_laws.specs.declared.width.Width.TheVariants.{W64, W96}
use Rattle.op_catalog.specs.declared.takes.Takes.{Takes}
use Rattle.op_catalog.specs.declared.takes.Takes.TheVariants.{Sums, Numbers, Words}
use Rattle.op_catalog.specs.declared.takes.OpFault.{OpFault}
use Rattle.op_catalog.specs.Catalog.{typed_by}
use Rattle.tree_names.specs.declared.tree_name.TreeName.{TreeName}
use Rattle.tree_names.specs.declared.tree_name.TreeName.TheVariants as tree
use Rattle.tree_names.specs.declared.down_name.DownName.{DownName}
use Rattle.tree_names.specs.declared.down_name.DownName.TheVariants as down
use Rattle.tree_names.specs.declared.rose_name.RoseName.{RoseName}
use Rattle.tree_names.specs.declared.rose_name.RoseName.TheVariants as rose
use Rattle.tree_names.specs.declared.rose_down_name.RoseDownName.{RoseDownName}
use Rattle.tree_names.specs.declared.rose_down_name.RoseDownName.TheVariants as rose_down

-- operators that go up binary trees

abbrev pub tree_name : TreeName → List ℕ
tree_name tree.Sum = codes "sum"
tree_name tree.Min = codes "min"
tree_name tree.Max = codes "max"
tree_name tree.Heavy = codes "heavy"
tree_name tree.BestSub = codes "bestsub"
tree_name tree.Expr = codes "expr"

-- the operator of this name
abbrev pub tree_named : List ℕ → Option TreeName
tree_named word = find (λ op. bytes_eq word (tree_name op)) (tree.Sum ∷ tree.Min ∷ tree.Max ∷ tree.Heavy ∷ tree.BestSub ∷ tree.Expr ∷ [])

abbrev pub tree_takes : TreeName → Takes
tree_takes tree.Sum = Sums
tree_takes tree.Min = Numbers
tree_takes tree.Max = Numbers
tree_takes tree.Heavy = Sums
tree_takes tree.BestSub = Sums
tree_takes tree.Expr = Words

-- the result's type at an element's type, or what is at fault with it
abbrev pub tree_typed : TreeName → List Width → Result (List Width) OpFault
tree_typed op ty = typed_by (tree_takes op) ty

-- operators that come down binary trees

abbrev pub down_name : DownName → List ℕ
down_name down.PathSum = codes "pathsum"
down_name down.PathMax = codes "pathmax"
down_name down.Turns = codes "turns"
down_name down.HeapIndex = codes "heapindex"
down_name down.Pre = codes "pre"

-- the operator of this name
abbrev pub down_named : List ℕ → Option DownName
down_named word = find (λ op. bytes_eq word (down_name op)) (down.PathSum ∷ down.PathMax ∷ down.Turns ∷ down.HeapIndex ∷ down.Pre ∷ [])

-- the result's type at an element's type, or what is at fault with it; two operators take elements of every type
abbrev pub down_typed : DownName → List Width → Result (List Width) OpFault
down_typed down.PathSum ty = typed_by Sums ty
down_typed down.PathMax ty = typed_by Numbers ty
down_typed down.Turns ty = Ok (W96 ∷ [])
down_typed down.HeapIndex ty = Ok (W64 ∷ [])
down_typed down.Pre ty = typed_by Sums ty

-- operators that go up rose trees

abbrev pub rose_name : RoseName → List ℕ
rose_name rose.Sum = codes "sum"
rose_name rose.Max = codes "max"
rose_name rose.Min = codes "min"
rose_name rose.Heavy = codes "heavy"
rose_name rose.Ring = codes "ring"

-- the operator of this name
abbrev pub rose_named : List ℕ → Option RoseName
rose_named word = find (λ op. bytes_eq word (rose_name op)) (rose.Sum ∷ rose.Max ∷ rose.Min ∷ rose.Heavy ∷ rose.Ring ∷ [])

abbrev pub rose_takes : RoseName → Takes
rose_takes rose.Sum = Sums
rose_takes rose.Max = Numbers
rose_takes rose.Min = Numbers
rose_takes rose.Heavy = Sums
rose_takes rose.Ring = Words

-- the result's type at an element's type, or what is at fault with it
abbrev pub rose_typed : RoseName → List Width → Result (List Width) OpFault
rose_typed op ty = typed_by (rose_takes op) ty

-- operators that come down rose trees

abbrev pub rose_down_name : RoseDownName → List ℕ
rose_down_name rose_down.PathSum = codes "pathsum"

-- the operator of this name
abbrev pub rose_down_named : List ℕ → Option RoseDownName
rose_down_named word = find (λ op. bytes_eq word (rose_down_name op)) (rose_down.PathSum ∷ [])

abbrev pub rose_down_takes : RoseDownName → Takes
rose_down_takes rose_down.PathSum = Sums

-- the result's type at an element's type, or what is at fault with it
abbrev pub rose_down_typed : RoseDownName → List Width → Result (List Width) OpFault
rose_down_typed op ty = typed_by (rose_down_takes op) ty
