-- Tasks that are put off change the code as they say.
use Rattle.std.proofs.Common.{◌≡◌, List, [], ◌∷◌, ◌++◌, sym, ap, ◌∙◌}
use Rattle.std.proofs.lemmas.List.{append_assoc, append-nil}
use Rattle.early_errors.specs.declared.task.Task.{Task}
use Rattle.early_errors.specs.Strictness.{codes_of, strict_of}

pub one-more : (xs : List Task) (t : Task) → codes_of (xs ++ t ∷ []) ≡ codes_of xs ++ strict_of t
unfolding codes_of
one-more [] t = append-nil (strict_of t)
one-more (x ∷ xs) t = ap (λ bs. strict_of x ++ bs) (one-more xs t) ∙ sym (append_assoc (strict_of x) (codes_of xs) (strict_of t))
