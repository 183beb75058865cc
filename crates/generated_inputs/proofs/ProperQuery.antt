-- The query is proper, and has its type.
use Rattle.std.proofs.Common.{◌≡◌, Ok, refl, codes, arith}
use Rattle.nq_model.specs.Judging.{program_judged}
use Rattle.nq_model.specs.Proper.{IsProperTerm, IsQueryWord}
use Rattle.nq_model.specs.Terms.{bare}
use Rattle.generated_inputs.specs.Generated.{tasks_function, employee_element, department_element, generated_schema, generated_query, generated_type}
use Rattle.generated_inputs.proofs.Names.{apart, spelled}

departments_is : IsQueryWord (codes "departments")
departments_is = spelled _ _ refl (omega arith)

department_is : IsQueryWord (codes "department")
department_is = spelled _ _ refl (omega arith)

employees_is : IsQueryWord (codes "employees")
employees_is = spelled _ _ refl (omega arith)

employee_is : IsQueryWord (codes "employee")
employee_is = spelled _ _ refl (omega arith)

tasks_is : IsQueryWord (codes "tasks")
tasks_is = spelled _ _ refl (omega arith)

task_is : IsQueryWord (codes "task")
task_is = spelled _ _ refl (omega arith)

name_is : IsQueryWord (codes "name")
name_is = spelled _ _ refl (omega arith)

dept_is : IsQueryWord (codes "dept")
dept_is = spelled _ _ refl (omega arith)

tasks_function_proper : IsProperTerm (bare tasks_function)
tasks_function_proper = (record { ordered = tt; words = tt }, (tasks_is, (((tt, employee_is), tt), (tt, task_is))))

employee_proper : IsProperTerm (bare employee_element)
employee_proper =
    (((apart (codes "name") (codes "tasks") refl, tt), (tt, tt)), (name_is, (tt, name_is), (tasks_is, (tt, (tt, name_is)), tt)))

department_proper : IsProperTerm (bare department_element)
department_proper = (
  ((apart (codes "department") (codes "employees") refl, tt), (tt, tt)),
  (department_is, (tt, name_is), (employees_is, (employees_is, (((tt, dept_is), (tt, name_is)), employee_proper)), tt)),
)

pub proper : IsProperTerm (bare generated_query)
unfolding generated_query
proper = (tasks_function_proper, (departments_is, department_proper))

pub typed : program_judged generated_schema generated_query ≡ Ok generated_type
unfolding generated_schema generated_query generated_type
typed = refl

pub ruleset query_rules = (proper, typed)
