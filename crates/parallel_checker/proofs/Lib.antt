mod Persons
