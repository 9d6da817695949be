-- What is recorded of cover names.
use Rattle.std.specs.Prelude.{◌≡◌, ◌++◌, Bool, true, not, List, [], ◌∷◌, map}
use Rattle.swc_context.specs.{Spans.in_order, declared.error.Error.Error, declared.error.SyntaxError.TheVariants.AssignProperty, declared.span.Span.Span}
use Rattle.swc_input.specs.{Buffer.Read, Buffer.state_of, Recording.error_in, Recording.is_some, Source.Model, declared.buffer.Buffer.Buffer, declared.token.TokenAndSpan.TokenAndSpan}

-- the fault that a cover name at the place is, with the ends of its place in order
abbrev pub cover_fault : Span → Error
cover_fault s = record { span = in_order s; kind = AssignProperty }

abbrev pub cover_faults : List Span → List Error
cover_faults ss = map cover_fault ss

-- of the tokens to come the first one holds no error, or there is none
abbrev pub begins_fit : List TokenAndSpan → Bool
begins_fit [] = true
begins_fit (t ∷ ts) = not (is_some (error_in t.token))

module _ {S : Type 0} (model : Model S) where
  -- The faults were recorded, and no others, and nothing was consumed.
  pub record Appends (es : List Error) (b c : Buffer S) : Type 0 where
    pub read : Read model b [] c
    pub errors : (state_of model c).errors ≡ (state_of model b).errors ++ es
    pub waiting : (state_of model c).waiting ≡ (state_of model b).waiting
