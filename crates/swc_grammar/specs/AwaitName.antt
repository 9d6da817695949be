-- Whether an expression ends in `await` as a name: outside async code and modules the clean parser reads no link after
-- it on another line, though one might follow a name.
use Rattle.std.specs.Prelude.{Bool, true, false, codes}
use Rattle.swc_context.specs.Texts.{is_text}
use Rattle.swc_ast.specs.Tree.{Tree, Trees, node, nil, cons, seq, assign, cond, bin, unary, await, update, yield, arrow, hole, block, ident}

abbrev pub await_of_block : {F C K : Type 0} → Tree F C K → Bool → Bool
await_of_block (node (block v) s ts) b = false
await_of_block t b = b

abbrev mutual
  pub await_in : {F C K : Type 0} → Tree F C K → Bool
  await_in (node (ident n) s ts) = is_text n (codes "await")
  await_in (node (update op true) s ts) = await_in_all ts
  await_in (node (yield d) s (cons (node hole s' us) ts)) = false
  await_in (node (yield d) s ts) = await_in_all ts
  await_in (node (arrow a) s (cons b ps)) = await_of_block b (await_in b)
  await_in (node (unary op) s ts) = await_in_all ts
  await_in (node await s ts) = await_in_all ts
  await_in (node (bin op) s ts) = await_in_all ts
  await_in (node (assign op) s ts) = await_in_all ts
  await_in (node cond s ts) = await_in_all ts
  await_in (node seq s ts) = await_in_all ts
  await_in t = false

  pub await_in_all : {F C K : Type 0} → Trees F C K → Bool
  await_in_all nil = false
  await_in_all (cons t nil) = await_in t
  await_in_all (cons t (cons u us)) = await_in_all (cons u us)
