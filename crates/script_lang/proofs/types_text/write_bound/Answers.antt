use Rattle.std.proofs.Common.{◌≡◌, [], ◌∷◌, length, arith}
use Rattle.script_lang.specs.TypesText.{kind_word, type_line, binding_text}
use Rattle.script_lang.specs.Views.{binding_of}
use Rattle.script_lang.proofs.TextLemmas.{three_is, four_is, same_line, given_of, cut_of}
use Rattle.script_lang.proofs.types_text.write_bound.Goals as goal

pub returns-in-3-clause-given : goal.returns-in-3-clause-given
returns-in-3-clause-given g c =
    let b = binding_of c.args.bound.now in
    let three : length b.ty ≡ 3 = omega arith in
    let ws = c.at-in-3.result ∷ c.at-in-3-2.result ∷ c.at-in-3-3.result ∷ [] in
    let is = three_is b.ty c.at-in-3.result c.at-in-3-2.result c.at-in-3-3.result three c.at-in-3.ensures c.at-in-3-2.ensures c.at-in-3-3.ensures in
    let line = same_line c.bytes-name.result.now b.name c.word-kind.result.now (kind_word b.kind) ws b.ty c.bytes-name.ensures.value c.word-kind.ensures is in
    given_of c.write_three.result (type_line c.bytes-name.result.now c.word-kind.result.now ws) (binding_text b) _ _ _ _ line c.write_three.ensures.given

pub returns-in-3-clause-cut_off : goal.returns-in-3-clause-cut_off
returns-in-3-clause-cut_off g c =
    let b = binding_of c.args.bound.now in
    let three : length b.ty ≡ 3 = omega arith in
    let ws = c.at-in-3.result ∷ c.at-in-3-2.result ∷ c.at-in-3-3.result ∷ [] in
    let is = three_is b.ty c.at-in-3.result c.at-in-3-2.result c.at-in-3-3.result three c.at-in-3.ensures c.at-in-3-2.ensures c.at-in-3-3.ensures in
    let line = same_line c.bytes-name.result.now b.name c.word-kind.result.now (kind_word b.kind) ws b.ty c.bytes-name.ensures.value c.word-kind.ensures is in
    cut_of c.write_three.result (type_line c.bytes-name.result.now c.word-kind.result.now ws) (binding_text b) _ _ _ _ _ _ line c.write_three.ensures.cut_off

pub returns-in_default-clause-given : goal.returns-in_default-clause-given
returns-in_default-clause-given g c =
    let b = binding_of c.args.bound.now in
    let four : length b.ty ≡ 4 = omega arith in
    let ws = c.at-in_default.result ∷ c.at-in_default-2.result ∷ c.at-in_default-3.result ∷ c.at-in_default-4.result ∷ [] in
    let is = four_is b.ty c.at-in_default.result c.at-in_default-2.result c.at-in_default-3.result c.at-in_default-4.result four c.at-in_default.ensures c.at-in_default-2.ensures c.at-in_default-3.ensures c.at-in_default-4.ensures in
    let line = same_line c.bytes-name.result.now b.name c.word-kind.result.now (kind_word b.kind) ws b.ty c.bytes-name.ensures.value c.word-kind.ensures is in
    given_of c.write_four.result (type_line c.bytes-name.result.now c.word-kind.result.now ws) (binding_text b) _ _ _ _ line c.write_four.ensures.given

pub returns-in_default-clause-cut_off : goal.returns-in_default-clause-cut_off
returns-in_default-clause-cut_off g c =
    let b = binding_of c.args.bound.now in
    let four : length b.ty ≡ 4 = omega arith in
    let ws = c.at-in_default.result ∷ c.at-in_default-2.result ∷ c.at-in_default-3.result ∷ c.at-in_default-4.result ∷ [] in
    let is = four_is b.ty c.at-in_default.result c.at-in_default-2.result c.at-in_default-3.result c.at-in_default-4.result four c.at-in_default.ensures c.at-in_default-2.ensures c.at-in_default-3.ensures c.at-in_default-4.ensures in
    let line = same_line c.bytes-name.result.now b.name c.word-kind.result.now (kind_word b.kind) ws b.ty c.bytes-name.ensures.value c.word-kind.ensures is in
    cut_of c.write_four.result (type_line c.bytes-name.result.now c.word-kind.result.now ws) (binding_text b) _ _ _ _ _ _ line c.write_four.ensures.cut_off
