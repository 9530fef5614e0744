-- What rungs are checked against, in the words of the definition.
use Rattle.spec_language.specs.Checked as checking
use Rattle.lgx_check.specs.declared.scope.CheckScope.{CheckScope}

abbrev pub scope_of : CheckScope → checking.CheckScope
scope_of s = record { tags = s.tags.now.declarations; program = s.program; routines = s.routines.now; tasks = s.tasks.now }
