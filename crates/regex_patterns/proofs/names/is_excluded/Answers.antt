use Rattle.std.proofs.Common.{◌≡◌, ℕ, List, sym, subst, ap, ◌∙◌, Some}
use Rattle.std.specs.Prelude.{IfOk, if◌then◌else◌}
use Rattle.std.specs.String.{string_bytes}
use Rattle.std.specs.HashMap.{get_by_text}
use Rattle.std.proofs.lemmas.Map.Text.{hash_map_updates_text}
use Rattle.regex_patterns.specs.Conditions as conditions
use Rattle.regex_patterns.proofs.Bytes.{bytes-sym}
use Rattle.regex_patterns.proofs.names.is_excluded.Goals as goal
use Rattle.regex_patterns.proofs.names.is_excluded.Goals.{in-Ok-Some, in-Ok-None, in-Err}

pub returns-clause-put : goal.returns-clause-put
returns-clause-put c =
    let n = string_bytes c.args.name in
    elim c.match-insert.branch [
      | in-Ok-Some w ↦ subst (λ r. IfOk r (λ b. (q : List ℕ) → get_by_text c.insert.new.self q ≡ conditions.put (get_by_text c.args.last.now) n c.args.number q))
          (sym w.result-is)
          (λ q. hash_map_updates_text n c.args.last.now c.insert.new.self (Some c.args.number) w.in-Ok-Some.ensures.updates q
          ∙ ap (λ t. if t then Some c.args.number else get_by_text c.args.last.now q) (bytes-sym n q))
      | in-Ok-None w ↦ subst (λ r. IfOk r (λ b. (q : List ℕ) → get_by_text c.insert.new.self q ≡ conditions.put (get_by_text c.args.last.now) n c.args.number q))
          (sym w.result-is)
          (λ q. hash_map_updates_text n c.args.last.now c.insert.new.self (Some c.args.number) w.in-Ok-None.ensures.updates q
          ∙ ap (λ t. if t then Some c.args.number else get_by_text c.args.last.now q) (bytes-sym n q))
      | in-Err w ↦ subst (λ r. IfOk r (λ b. (q : List ℕ) → get_by_text c.insert.new.self q ≡ conditions.put (get_by_text c.args.last.now) n c.args.number q))
          (sym w.result-is) tt
    ]
