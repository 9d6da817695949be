use Rattle.swc_primary.proofs.modifiers.parse_modifiers.Goals as goal

pub returns-in-Generator-clause-parses : goal.returns-in-Generator-clause-parses
returns-in-Generator-clause-parses g c = rw c.in-Generator.is c.expect.ensures.expects

pub returns-in-Async-clause-parses : goal.returns-in-Async-clause-parses
returns-in-Async-clause-parses g c = rw c.in-Async.is c.expect-in-Async.ensures.expects

pub returns-in-AsyncGenerator-clause-parses : goal.returns-in-AsyncGenerator-clause-parses
returns-in-AsyncGenerator-clause-parses g c = rw c.in-AsyncGenerator.is c.parse_async_star.ensures.parses

pub returns-in-Getter-clause-parses : goal.returns-in-Getter-clause-parses
returns-in-Getter-clause-parses g c = rw c.in-Getter.is c.expect-in-Getter.ensures.expects

pub returns-in-Setter-clause-parses : goal.returns-in-Setter-clause-parses
returns-in-Setter-clause-parses g c = rw c.in-Setter.is c.expect-in-Setter.ensures.expects
