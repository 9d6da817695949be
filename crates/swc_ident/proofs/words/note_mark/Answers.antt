use Rattle.std.proofs.{Common.ap, lemmas.Result.err_from_is_err_and}
use Rattle.swc_context.specs.Words.{word_text}
use Rattle.swc_ident.specs.Steps.{faults_of}
use Rattle.swc_ident.proofs.Reading.{forgone_here, none_to_note}
use Rattle.swc_ident.proofs.words.note_mark.Goals as goal

pub returns-in_err-kind-in-Reserved : goal.returns-in_err-kind-in-Reserved
returns-in_err-kind-in-Reserved g c =
    let p = err_from_is_err_and c.from_residual.result c.from_residual.ensures.1 in rw (p.1, p.2)
    (forgone_here g.met.I.Tokens.laws c.in_err-kind-in-Reserved.ensures)

pub returns-in_err-kind-in-Strict : goal.returns-in_err-kind-in-Strict
returns-in_err-kind-in-Strict g c =
    let p = err_from_is_err_and c.from_residual-in_err-kind-in-Strict.result
    c.from_residual-in_err-kind-in-Strict.ensures.1 in rw (p.1, p.2)
    (forgone_here g.met.I.Tokens.laws c.in_err-kind-in-Strict.ensures)

pub returns-in-Clean : goal.returns-in-Clean
returns-in-Clean g c = none_to_note (ap (λ m. faults_of m (word_text c.args.word.now)) c.in-Clean.is)
