use Rattle.std.proofs.Common.{◌≡◌, map, drop}
use Rattle.std.specs.List.{All}
use Rattle.op_laws.specs.Admits.{Admits}
use Rattle.list_fusion.specs.Pipes.{type_of, elements}
use Rattle.script_lang.specs.Views.{statement_of}
use Rattle.script_run.specs.Pipes.{ArePassing, passed_along, type_along_lines}
use Rattle.script_run.proofs.chain.pass_chain.Given as goal

abbrev pub invariant-loop-n : goal.invariant-loop-n
invariant-loop-n l = record {
  passes : ArePassing (map statement_of l.lines) (drop l.n-index l.chain) (type_of l.pipe);
  admitted : All (Admits (type_of l.pipe)) (elements l.pipe);
  items : passed_along (map statement_of l.lines) (drop l.n-index l.chain) (elements l.pipe) ≡ passed_along (map statement_of l.lines) l.chain (elements l.initial.pipe);
  ty : type_along_lines (map statement_of l.lines) (drop l.n-index l.chain) (type_of l.pipe) ≡ type_along_lines (map statement_of l.lines) l.chain (type_of l.initial.pipe);
}
