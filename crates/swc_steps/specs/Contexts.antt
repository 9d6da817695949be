-- The contexts of parts, with the flags that decide nothing.
use Rattle.std.specs.Prelude.{true, false}
use Rattle.swc_context.specs.declared.context.Context.{Context}

-- of the middle of a conditional (ECMA-262, 13.14), and of its last part
abbrev pub cond_middle : Context → Context
cond_middle c = record c { include_in_expr = true; in_cond_expr = true; will_expect_colon_for_cond = true }

abbrev pub cond_last : Context → Context
cond_last c = record c { in_cond_expr = true; will_expect_colon_for_cond = false }
